-- The bits of the shifted word are those of the row from there on.
use Prim.Native.Nat.{◌-◌}
use Rattle.index_rebuild.proofs.Ways.{row_shifted}
use native.Mathlib.Omega.{arith}
use Rattle.index_rebuild.proofs.map.next_in_word.Goals as goal

pub returns-then-bit-lt64 : goal.returns-then-bit-lt64
returns-then-bit-lt64 c = ((omega arith, omega arith), λ k x y. row_shifted _ _ _ _ (omega arith) c.lowest_bit.ensures.before k x (omega arith))

pub returns : goal.returns
returns c = λ k x y. row_shifted _ _ _ (64 - c.args.first) (omega arith) (λ j l. c.lowest_bit.ensures.before j (omega arith)) k x (omega arith)
