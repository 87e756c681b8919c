use Rattle.std.proofs.Common.{rules, tests, ℕ, ◌+◌, ◌%◌, get_or}
use lib.Dec.{eqb}
use native.Mathlib.Nat.{sub-zero}
use Rattle.std.proofs.lemmas.Iterator.{YieldsList-from_range, YieldsList-from_map}
use Rattle.std.proofs.lemmas.Iterator.Search.{find_from_yields_List}
use Rattle.index_hash.proofs.Turns.{found_by_find}
use Rattle.index_hash.proofs.empty_from.Goals as goal

pub returns : goal.returns
returns c =
    let a = c.args in
    let at = λ (step : ℕ). (a.from + step % 8192) % 8192 in
    let test = λ (cell : ℕ). eqb (get_or a.hash.now (cell % 8192) 0) 0 in
    found_by_find a.hash.now a.from a.cells c.requires _ (find_from_yields_List test _ _ c.find.result c.find.ensures.ran (YieldsList-from_map _ at (YieldsList-from_range 0 a.cells a.cells c.map.ensures.source (sub-zero a.cells)) c.map.ensures.closure (λ x r q k. search rules)) (λ x b q k. search (rules, tests)))
