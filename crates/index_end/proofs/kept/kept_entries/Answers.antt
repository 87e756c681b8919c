use mathlib.Core.Path.{◌∙◌}
use Rattle.index_end.proofs.Turns.{kept_here, kept_before, kept_none}
use native.Mathlib.Omega.{arith}
use Rattle.index_end.proofs.kept.kept_entries.Goals as goal

pub returns-then-last-max_frame : goal.returns-then-last-max_frame
returns-then-last-max_frame c =
    let i = c.loop-last.invariant in
    (kept_here _ _ _ _ c.in-Some.ensures.cases.0 c.if-last-max_frame.true ∙ i.1, i.0)

pub loop-last-preserved : goal.loop-last-preserved
loop-last-preserved c =
    let i = c.loop-last.invariant in
    let split = c.in-Some.ensures.cases in
    (omega (arith, split.1, i.0), kept_before _ _ _ _ split.0 c.if-last-max_frame.false ∙ i.1)

pub returns : goal.returns
returns c = (kept_none _ _ c.in_default.ensures.cases ∙ c.loop-last.invariant.1, omega arith)
