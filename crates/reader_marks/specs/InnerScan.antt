-- Words for what a scan of the registry finds. No contract of a call cites them. Assumes nothing.
use Rattle.std.specs.Prelude.{Bool, not, ◌&&◌, Option, Some, None, List, ℕ, eqb, length, get_or}
use Rattle.std.specs.List.{list_all}
use Rattle.wal_types.specs.declared.SharedReadMark.{SharedReadMark}
use Rattle.wal_types.specs.Memory.{no_mark}
use Rattle.reader_marks.specs.declared.Seen.{Seen}
use Rattle.reader_marks.specs.declared.Seen.TheVariants.{Shared, New}
use Rattle.reader_marks.specs.Registry.{is_empty, record_of, empty_record}

-- the record is in use and passes the test
abbrev pub used : (SharedReadMark → Bool) → SharedReadMark → Bool
used test r = not (is_empty r) && test r

-- a part of the registry is eight records, none of them in use
abbrev pub eight_empty : List SharedReadMark → Bool
eight_empty part = eqb (length part) 8 && list_all is_empty part

-- what is seen where the mark's record is found, and where none is
abbrev pub seen_by : List SharedReadMark → Option ℕ → Option ℕ → Seen
seen_by registry (Some i) free = Shared i (get_or registry i no_mark)
seen_by registry None free = New free

-- What is seen of the first n records: the mark's and, where it has none, the first empty one. A scan that finds the mark looks
-- no further.
unfoldable pub seen_of : ℕ → List SharedReadMark → ℕ → Seen
seen_of n registry mark = seen_by registry (record_of n registry mark) (empty_record n registry)
