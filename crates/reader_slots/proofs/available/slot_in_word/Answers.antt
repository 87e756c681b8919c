use Rattle.reader_slots.proofs.Free.{free_past, free_found, free_next, free_less}
use Rattle.reader_slots.proofs.Words.{empty_word}
use Prim.Native.Nat.{◌-◌, ◌%◌}
use mathlib.Core.Path.{◌≡◌, sym, ◌∙◌}
use native.Mathlib.Omega.{arith}
use Rattle.reader_slots.proofs.available.slot_in_word.Goals as goal

pub returns-then-end-slot : goal.returns-then-end-slot
returns-then-end-slot c = free_past _ c.args.first c.args.end c.args.local_readers.now c.args.card.now _ c.loop-left.invariant _ c.lowest_bit-bit.ensures (omega arith) c.if-end-slot.true

pub returns-then-can_lock : goal.returns-then-can_lock
returns-then-can_lock c = free_found _ c.args.first c.args.end c.args.local_readers.now c.args.card.now _ c.loop-left.invariant c.lowest_bit-bit.result c.lowest_bit-bit.ensures (omega arith) (omega arith) (omega arith) (sym c.can_lock.ensures ∙ c.if-can_lock.true)

pub loop-left-smaller : goal.loop-left-smaller
loop-left-smaller c = let bit : c.lowest_bit-bit.result % 64 ≡ c.lowest_bit-bit.result = omega arith in rw (c.without_bit-left.ensures, bit) (free_less _ _ c.lowest_bit-bit.ensures (omega arith))

pub loop-left-preserved : goal.loop-left-preserved
loop-left-preserved c = let bit : c.lowest_bit-bit.result % 64 ≡ c.lowest_bit-bit.result = omega arith in rw (c.without_bit-left.ensures, bit) (free_next _ c.args.first c.args.end c.args.local_readers.now c.args.card.now _ c.loop-left.invariant c.lowest_bit-bit.result c.lowest_bit-bit.ensures (omega arith) (omega arith) (omega arith) (sym c.can_lock.ensures ∙ c.if-can_lock.false))

pub returns : goal.returns
returns c = empty_word _ c.args.first (c.args.end - c.args.first) c.args.local_readers.now c.args.card.now c.loop-left-test.false ∙ c.loop-left.invariant
