-- Whether cells differ from a header's. Assumes nothing.
use Rattle.std.specs.Prelude.{Bool, not, ◌||◌, eqb}
use Rattle.wal_types.specs.declared.Header.{Header}
use Rattle.index_end.specs.declared.cells.IndexCells.{IndexCells}

abbrev pub cells_change : IndexCells → Header → Bool
cells_change cells h =
    not (eqb cells.frame_index_len h.frame_index_len)
    || (not (eqb cells.frame_index_overflowed h.frame_index_overflowed)
    || not (eqb cells.frame_index_blocks h.frame_index_blocks))
