-- Every bit is 1.
use Rattle.index_rebuild.proofs.Dropped.{none_clear}
use native.Mathlib.Omega.{arith}
use Rattle.index_rebuild.proofs.map.CellMap.new.Goals as goal

pub invariant_of-result : goal.invariant_of-result
invariant_of-result c = record { words_tell = λ w u clear. absurd (none_clear 2 w (omega arith) clear) }

pub returns : goal.returns
returns c = λ h k u clear. absurd (none_clear 128 k (omega arith) clear)
