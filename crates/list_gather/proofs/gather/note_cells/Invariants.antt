use Rattle.std.proofs.Common.{◌≡◌, ℕ, ◌*◌, ◌<◌, false, length, get_or, take}
use Rattle.list_gather.specs.Named.{has_cell}
use Rattle.list_gather.proofs.gather.note_cells.Given as goal

abbrev pub invariant-loop-run : goal.invariant-loop-run
invariant-loop-run l = record {
  every_value : length l.seen ≡ 4097;
  noted : (v : ℕ) → 0 < v → v < 4097 → get_or l.seen v false ≡ has_cell (take (8 * l.run-index) l.cells) v;
}
