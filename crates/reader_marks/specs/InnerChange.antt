-- What retain, publish and release do to one record of the registry. No contract of a call cites them. Assumes nothing.
use Rattle.std.specs.Prelude.{cond, List, ℕ, leb, get_or, set}
use Rattle.wal_types.specs.declared.SharedReadMark.{SharedReadMark}
use Rattle.wal_types.specs.Settings.{most_holders}
use Rattle.wal_types.specs.Memory.{no_mark}
use Rattle.reader_marks.specs.declared.SharedSlot.{SharedSlot}
use Rattle.reader_marks.specs.Registry.{one_more, one_less}

-- a record with a holder more, if it has fewer than there may be; a new one, with its first holder
abbrev pub one_more_below : SharedReadMark → SharedReadMark
one_more_below r = cond (leb most_holders r.holders) r (one_more r)

abbrev pub first_held : SharedSlot → SharedReadMark
first_held taken = record { mark = taken.reader.mark; slot = taken.slot; owner = taken.reader.owner; holders = 1 }

-- the registry with the record in place i retained, published or released; past the end it stays as it is
abbrev pub retained : ℕ → List SharedReadMark → List SharedReadMark
retained i registry = set registry i (one_more_below (get_or registry i no_mark))

abbrev pub published : ℕ → SharedSlot → List SharedReadMark → List SharedReadMark
published i taken registry = set registry i (first_held taken)

abbrev pub released : ℕ → List SharedReadMark → List SharedReadMark
released i registry = set registry i (one_less (get_or registry i no_mark))
