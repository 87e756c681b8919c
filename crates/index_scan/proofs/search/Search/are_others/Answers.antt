use mathlib.Core.Path.{◌≡◌, sym, ◌∙◌, ap}
use mathlib.Core.Bool.{true}
use Prim.Native.Nat.{◌+◌, ◌-◌, ℕ}
use native.Mathlib.Omega.{arith}
use lib.ListN.{take, drop}
use Rattle.std.proofs.Common.{rules, tests}
use Rattle.std.proofs.lemmas.Iterator.{YieldsList-from_slice}
use Rattle.std.proofs.lemmas.Iterator.Consumers.{fold_from_yields_List}
use Rattle.index_scan.proofs.Looks.{other_too, look_others}
use Rattle.index_scan.proofs.search.Search.are_others.Goals as goal

pub returns : goal.returns
returns c others =
    let a = c.args in
    let eight : a.from + 8 - a.from ≡ 8 = omega arith in
    let pages = c.iter.ensures.rest ∙ ap (λ (n : ℕ). take n (drop a.from a.self.now.pages.now)) eight in
    let told = fold_from_yields_List _ (other_too a.self.now.page_id) true _ c.fold.ensures.ran (YieldsList-from_slice (take 8 (drop a.from a.self.now.pages.now)) pages) (λ a x b q k. search (rules, tests)) in
    look_others a.self.now.pages.now a.self.now.page_id a.from c.requires (sym told ∙ others)
