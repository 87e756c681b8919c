-- Calls that only look: they store nothing and leave their process as it was. Assumes nothing.
use mathlib.Core.Path.{refl}
use mathlib.Core.List.{List, []}
use Prim.Native.Nat.{ℕ}
use Rattle.std.specs.Prelude.{Option}
use Rattle.wal_types.specs.Call.{Pair, listed, does}
use Rattle.wal_types.proofs.Every.{Reads, reads_unless}
use Rattle.index_find.specs.Index.{index_tests, entries_tests}
use Rattle.index_find.specs.Find.{lookup_answer, find_answer, find_frame}
use Rattle.list_latest.specs.Latest.{list_tests, pairs_of, listed_entries, iter_latest_frames}
use Rattle.index_grown.specs.Entries.{entries}
use Rattle.index_scan.specs.Scan.{scan}
use Rattle.index_scan.specs.Between.{frame_chosen, frame_between}
use Rattle.index_scan.specs.Nearest.{nearest, nearest_frame}
use Rattle.sequence.specs.Sequence.{Settings, LookOp, find_op, list_op, between_op, nearest_op, look}

find_looks : (capacity b page low high : ℕ) (w : Option ℕ) → Reads (find_frame capacity b page low high w)
unfolding find_frame
find_looks capacity b page low high w = reads_unless (λ m p. index_tests capacity b m) (λ m. does (find_answer page low high w m) (λ z. []) m) (λ m p. (refl, refl))

list_looks : (capacity b low high room_pages room_frames : ℕ) → Reads (iter_latest_frames capacity b low high room_pages room_frames)
unfolding iter_latest_frames
list_looks capacity b low high room_pages room_frames =
    reads_unless (λ m p. list_tests capacity b low high room_pages room_frames m) (λ m. does (listed (pairs_of m (listed_entries low high m))) (λ z. []) m) (λ m p. (refl, refl))

scan_looks : (capacity b : ℕ) (found : List Pair → Option ℕ) → Reads (scan capacity b found)
scan_looks capacity b found = reads_unless (λ m p. entries_tests capacity b m) (λ m. does (lookup_answer (found (entries m))) (λ z. []) m) (λ m p. (refl, refl))

between_looks : (capacity b page low high choice : ℕ) → Reads (frame_between capacity b page low high choice)
unfolding frame_between
between_looks capacity b page low high choice = scan_looks capacity b (λ es. frame_chosen es page low high choice)

nearest_looks : (capacity b page to : ℕ) → Reads (nearest_frame capacity b page to)
unfolding nearest_frame
nearest_looks capacity b page to = scan_looks capacity b (λ es. nearest es page to)

-- EACH CALL of the family
pub only_looks : (s : Settings) (o : LookOp) → Reads (look s o)
only_looks s (find_op page low high w) m p = find_looks _ _ _ _ _ _ m _
only_looks s (list_op low high room_pages room_frames) m p = list_looks _ _ _ _ _ _ m _
only_looks s (between_op page low high choice) m p = between_looks _ _ _ _ _ _ m _
only_looks s (nearest_op page to) m p = nearest_looks _ _ _ _ m _
