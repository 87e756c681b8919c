use Rattle.reader_slots.proofs.Cells.{get_or_any}
use Rattle.wal_types.specs.Settings.{unused}
use mathlib.Core.Path.{◌≡◌, sym, ◌∙◌}
use mathlib.Core.Bool.{Bool, true, false, not, ◌||◌, ◌&&◌}
use native.Mathlib.Omega.{arith}
use Rattle.reader_probe.proofs.live.live_reader_frame.Goals as goal

-- a slot that is not held here, and granted
neither_is_dead : (held granted : Bool) → (held || not granted) ≡ false → (not held && granted) ≡ true
neither_is_dead true granted e = let z : ◌≡◌ {A = Bool} false true = sym e in cc
neither_is_dead false true e = cc
neither_is_dead false false e = let z : ◌≡◌ {A = Bool} false true = sym e in cc

pub returns : goal.returns
returns c =
    let cell = get_or_any c.args.slots.now.reader_frames.now c.args.slot unused 0 (omega arith) in
    let reader = sym c.is_skipped.ensures ∙ c.if-is_skipped.false in
    let gone = sym c.is_live.ensures ∙ c.if-is_live.false in
    (rw (cell, reader, gone), (c.empty_slot.ensures.0, λ z p. rw (cell, reader, neither_is_dead _ _ gone) (c.empty_slot.ensures.1 z)))
