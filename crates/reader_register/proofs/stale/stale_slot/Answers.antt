use Rattle.reader_slots.proofs.Lowest.{lowest_by_find}
use Rattle.reader_register.specs.Inner.{stale_by}
use Rattle.std.proofs.Common.{rules, refl, tests}
use native.Mathlib.Nat.{sub-zero}
use Rattle.std.proofs.lemmas.Iterator.{YieldsList-from_range}
use Rattle.std.proofs.lemmas.Iterator.Search.{find_from_yields_List}
use Rattle.reader_register.proofs.stale.stale_slot.Goals as goal

pub returns : goal.returns
returns c =
    let n = c.args.settings.n in
    let test = stale_by c.args.settings.mode c.args.card.now c.args.bitmap.now c.args.reader_owners.now c.args.local_readers.now in
    lowest_by_find test test n _ (find_from_yields_List test _ _ _ c.find.ensures.ran (YieldsList-from_range 0 n n refl (sub-zero n)) (λ x b q k. search (rules, tests))) (λ j b. refl)
