use Rattle.std.specs.Prelude.{Option, None}
use Rattle.index_search.specs.InnerRun.{met_in}
use Prim.Native.Nat.{ℕ, ◌-◌}
use lib.ListN.{length}
use Rattle.index_search.proofs.Passed.{met_part, met_front, probe_straight, probe_round, looked_straight, looked_round}
use mathlib.Core.Path.{◌≡◌, ap, ◌∙◌}
use native.Mathlib.Omega.{arith}
use Rattle.index_search.proofs.probe.find_frame_in_block.Goals as goal

pub returns-then-end-lt-BLOCK_CELLS : goal.returns-then-end-lt-BLOCK_CELLS
returns-then-end-lt-BLOCK_CELLS c =
    let a = c.args in
    let h = a.hash.now in
    let p = a.pages.now in
    let r = c.live_until-end.ensures in
    let home = c.hash_page_id-home.result in
    let at_home = c.hash_page_id-home.ensures.0 in
    let end = c.live_until-end.result in
    let met = c.latest_in_run-met.ensures ∙ met_part h p a.page_id home (end - home) None (omega arith) in (
      met ∙ probe_straight h p a.page_id (length p) home end at_home (omega arith) (omega arith) r.1.0 (r.1.1 (omega arith)).1,
      looked_straight h a.page_id (length p) home end at_home (omega arith) (omega arith) r.1.0 (r.1.1 (omega arith)).1,
    )

pub returns : goal.returns
returns c =
    let a = c.args in
    let h = a.hash.now in
    let p = a.pages.now in
    let page = a.page_id in
    let home = c.hash_page_id-home.result in
    let at_home = c.hash_page_id-home.ensures.0 in
    let r = c.live_until-end.ensures in
    let s = c.live_until-wrapped.ensures in
    let wrapped = c.live_until-wrapped.result in
    let whole : c.live_until-end.result ≡ 8192 = omega arith in
    let met = c.latest_in_run-met.ensures ∙ met_part h p page home (c.live_until-end.result - home) None (omega arith) ∙ ap (λ (n : ℕ). met_in h p page home (n - home) None) whole in
    let found = c.latest_in_run-found.ensures ∙ met_front h p page wrapped c.latest_in_run-met.result (omega arith) in (
      found ∙ ap (λ (x : Option ℕ). met_in h p page 0 wrapped x) met ∙ probe_round h p page (length p) home wrapped at_home (omega arith) (λ k x y. r.1.0 k x (omega arith)) (omega arith) s.1.0 (λ b. (s.1.1 b).1),
      omega (arith, looked_round h page (length p) home wrapped at_home (omega arith) (λ k x y. r.1.0 k x (omega arith)) (omega arith) s.1.0 (λ b. (s.1.1 b).1)),
    )
