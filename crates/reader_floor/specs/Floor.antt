-- min_active_reader_frame (document 01, "Floor") and has_active_db_file_reader. Assumes nothing.
use Rattle.std.specs.Prelude.{Option, Some, None, is_some, Result, Ok, Err, Bool, not, ◌&&◌, cond, List, [], ◌∷◌, ℕ, zero, suc, ◌+◌, eqb, get_or}
use Rattle.wal_types.specs.declared.SharedWalOwnershipMode.{SharedWalOwnershipMode}
use Rattle.wal_types.specs.Settings.{slots_in_limits, unused}
use Rattle.wal_types.specs.Memory.{Memory, Process}
use Rattle.wal_types.specs.Store.{Piece}
use Rattle.wal_types.specs.declared.refusal.Refusal.{Refusal}
use Rattle.wal_types.specs.Refusal.{Test, ◌if◌, number}
use Rattle.wal_types.specs.declared.refusal.Refusal.TheVariants.{Settings, ShortMemory, Card, Probe}
use Rattle.wal_types.specs.Call.{Call, Answer, refused, frame_found, none, flag, does, unless}
use Rattle.reader_slots.specs.Slots.{short_slots, is_bad_card, empty_slots}
use Rattle.reader_slots.specs.Search.{lowest_slot, some_slot}
use Rattle.reader_probe.specs.Live.{dead, live, probe_failed, lower_floor, looked_at}

-- the least mark above 0 of the live ones among so many slots from this one on, and the floor so far
unfoldable pub floor_from : SharedWalOwnershipMode → List ℕ → Process → Memory → ℕ → ℕ → Option ℕ → Option ℕ
floor_from mode bytes p m zero i so_far = so_far
floor_from mode bytes p m (suc left) i so_far =
    floor_from mode bytes p m left (i + 1) (cond (live mode bytes p m i) (lower_floor so_far (get_or m.reader_frames i 0)) so_far)

abbrev pub floor_of : ℕ → SharedWalOwnershipMode → List ℕ → Memory → Process → Option ℕ
floor_of n mode bytes m p = floor_from mode bytes p m n 0 None

abbrev pub floor_answer : Option ℕ → Answer
floor_answer (Some f) = frame_found f
floor_answer None = none

-- the refusals of a call that probes so many of the n slots
abbrev pub probe_tests : ℕ → SharedWalOwnershipMode → List ℕ → ℕ → Memory → Process → List Test
probe_tests n mode bytes looked m p =
    (Settings if not (slots_in_limits n))
    ∷ (ShortMemory if short_slots n m p)
    ∷ (Card if is_bad_card n bytes)
    ∷ (Probe if some_slot (probe_failed mode bytes p m) looked 0)
    ∷ []

-- dead slots among the first so many are reclaimed, in order
abbrev pub reclaim_dead : SharedWalOwnershipMode → List ℕ → Process → ℕ → Piece
reclaim_dead mode bytes p looked = empty_slots mode (dead mode bytes p) looked 0

unfoldable pub min_active_reader_frame : ℕ → SharedWalOwnershipMode → List ℕ → Call
min_active_reader_frame n mode bytes =
    unless (probe_tests n mode bytes n) (λ m p. does (floor_answer (floor_of n mode bytes m p)) (reclaim_dead mode bytes p n) m p)

-- The first live slot with mark 0. Later slots are neither probed nor reclaimed.
abbrev pub db_file_reader_of : ℕ → SharedWalOwnershipMode → List ℕ → Memory → Process → Option ℕ
db_file_reader_of n mode bytes m p =
    lowest_slot (λ i. live mode bytes p m i && not (probe_failed mode bytes p m i) && eqb (get_or m.reader_frames i unused) 0) n 0

unfoldable pub has_active_db_file_reader : ℕ → SharedWalOwnershipMode → List ℕ → Call
has_active_db_file_reader n mode bytes =
    unless (λ m p. probe_tests n mode bytes (looked_at n (db_file_reader_of n mode bytes m p)) m p)
    (λ m p. does (flag (is_some (db_file_reader_of n mode bytes m p))) (reclaim_dead mode bytes p (looked_at n (db_file_reader_of n mode bytes m p))) m p)

-- what the answers tell
abbrev pub min_frame_answer : Result (Option ℕ) Refusal → Answer
min_frame_answer (Ok floor) = floor_answer floor
min_frame_answer (Err r) = refused (number r)

abbrev pub db_file_answer : Result Bool Refusal → Answer
db_file_answer (Ok t) = flag t
db_file_answer (Err r) = refused (number r)
