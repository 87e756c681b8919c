-- The registry of shared marks: n records (mark, slot, owner, holders); with 0 holders a record is empty. Assumes nothing.
use Rattle.std.specs.Prelude.{Bool, not, ◌&&◌, cond, Option, Some, None, List, ℕ, zero, suc, ◌+◌, ◌-◌, eqb, get_or, set}
use Rattle.wal_types.specs.declared.SharedReadMark.{SharedReadMark}
use Rattle.wal_types.specs.Memory.{Process, with_registry, no_mark}

abbrev pub is_empty : SharedReadMark → Bool
is_empty r = eqb r.holders 0

-- the record is of this mark
abbrev pub fits : ℕ → SharedReadMark → Bool
fits mark r = not (is_empty r) && eqb r.mark mark

-- the first of so many records, from this one on, that the test picks
unfoldable pub first_record : (SharedReadMark → Bool) → List SharedReadMark → ℕ → ℕ → Option ℕ
first_record test registry zero i = None
first_record test registry (suc left) i = cond (test (get_or registry i no_mark)) (Some i) (first_record test registry left (i + 1))

-- the first record of a mark, and the first empty one
abbrev pub record_of : ℕ → List SharedReadMark → ℕ → Option ℕ
record_of n registry mark = first_record (fits mark) registry n 0

abbrev pub empty_record : ℕ → List SharedReadMark → Option ℕ
empty_record n registry = first_record is_empty registry n 0

-- a record with a holder more, and with a holder less
abbrev pub one_more : SharedReadMark → SharedReadMark
one_more r = record { mark = r.mark; slot = r.slot; owner = r.owner; holders = r.holders + 1 }

abbrev pub one_less : SharedReadMark → SharedReadMark
one_less r = record { mark = r.mark; slot = r.slot; owner = r.owner; holders = r.holders - 1 }

-- the process with another record in place i
abbrev pub with_record : Process → ℕ → SharedReadMark → Process
with_record p i r = with_registry p (set p.registry i r)
