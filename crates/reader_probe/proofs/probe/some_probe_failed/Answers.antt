use Rattle.reader_slots.proofs.Some.{some_by_any}
use Rattle.reader_probe.specs.Inner.{failed_by}
use Rattle.std.proofs.Common.{rules, refl, tests}
use native.Mathlib.Nat.{sub-zero}
use Rattle.std.proofs.lemmas.Iterator.{YieldsList-from_range}
use Rattle.std.proofs.lemmas.Iterator.Search.{any_from_yields_List}
use Rattle.reader_probe.proofs.probe.some_probe_failed.Goals as goal

pub returns : goal.returns
returns c =
    let n = c.args.looked in
    let test = failed_by c.args.mode c.args.card.now c.args.reader_frames.now c.args.reader_owners.now c.args.local_readers.now in
    some_by_any test test n _ (any_from_yields_List test _ _ _ c.any.ensures.ran (YieldsList-from_range 0 n n refl (sub-zero n)) (λ x b q k. search (rules, tests))) (λ j b. refl)
