use Rattle.std.proofs.Common.{◌≡◌, ℕ, ◌<◌, false, ◌||◌, length, get_or, take}
use Rattle.list_gather.specs.Named.{has_cell}
use Rattle.list_gather.proofs.gather.note_run.Given as goal

abbrev pub invariant-loop-cell : goal.invariant-loop-cell
invariant-loop-cell l = record {
  every_value : length l.seen ≡ 4097;
  noted : (v : ℕ) → v < 4097 → get_or l.seen v false ≡ (get_or l.initial.seen v false || has_cell (take l.cell-index l.run) v);
}
