-- Words for the contracts of the inner functions: the calls' tests, over single cells and lists. No contract of a C
-- function cites them. Assumes nothing.
use Rattle.std.specs.Prelude.{Option, Some, None, Bool, true, false, not, ◌&&◌, ◌||◌, List, [], ◌∷◌, ◌++◌, ℕ, eqb, get_or}
use Rattle.wal_types.specs.declared.SharedWalOwnershipMode.{SharedWalOwnershipMode}
use Rattle.wal_types.specs.Settings.{unused, is_fcntl}
use Rattle.wal_types.specs.Refusal.{Test, ◌if◌, lowest}
use Rattle.wal_types.specs.declared.refusal.Refusal.TheVariants.{Probe}
use Rattle.wal_types.specs.declared.settings.ReaderSettings.{ReaderSettings}
use Rattle.reader_slots.specs.declared.slots.SharedSlots.{SharedSlots}
use Rattle.reader_slots.specs.Inner.{card_tests}
use Rattle.reader_slots.specs.Search.{some_slot}
use Rattle.reader_probe.specs.declared.live.LiveMarks.{LiveMarks}
use Rattle.reader_probe.specs.Live.{lower_floor}

-- the floor's tests of a slot, by its frame, owner, local owner and card byte alone
abbrev pub skipped_cell : SharedWalOwnershipMode → ℕ → ℕ → Bool
skipped_cell mode frame owner = eqb frame unused || (is_fcntl mode && eqb owner 0)

abbrev pub failed_cell : SharedWalOwnershipMode → ℕ → ℕ → ℕ → ℕ → Bool
failed_cell mode frame owner local byte =
    not (is_fcntl mode) && not (skipped_cell mode frame owner) && not (not (eqb local 0)) && eqb byte 2

abbrev pub live_cell : SharedWalOwnershipMode → ℕ → ℕ → ℕ → ℕ → Bool
live_cell mode frame owner local byte = not (skipped_cell mode frame owner) && (not (eqb local 0) || not (eqb byte 1))

-- the same by the slot frames f, the slot owners o and the local owners l, and by lent slots
abbrev pub failed_by : SharedWalOwnershipMode → List ℕ → List ℕ → List ℕ → List ℕ → ℕ → Bool
failed_by mode bytes f o l i = failed_cell mode (get_or f i unused) (get_or o i 0) (get_or l i 0) (get_or bytes i 0)

abbrev pub live_by : SharedWalOwnershipMode → List ℕ → SharedSlots → List ℕ → ℕ → Bool
live_by mode bytes s l i =
    live_cell mode (get_or s.reader_frames.now i unused) (get_or s.reader_owners.now i 0) (get_or l i 0) (get_or bytes i 0)

-- a live slot's mark, or none; and the marks so far with it
abbrev pub live_frame : Bool → ℕ → Option ℕ
live_frame true frame = Some frame
live_frame false frame = None

abbrev pub is_db_file : Option ℕ → Bool
is_db_file (Some frame) = eqb frame 0
is_db_file None = false

abbrev pub marks_with : LiveMarks → Option ℕ → LiveMarks
marks_with so_far (Some frame) = record { floor = lower_floor so_far.floor frame; db_file_reader = eqb frame 0 || so_far.db_file_reader }
marks_with so_far None = so_far

-- a live slot of mark 0 whose probe does not fail, by its cells and by lists; and without the probe
abbrev pub db_file_cell : SharedWalOwnershipMode → ℕ → ℕ → ℕ → ℕ → Bool
db_file_cell mode frame owner local byte =
    live_cell mode frame owner local byte && not (failed_cell mode frame owner local byte) && eqb frame 0

abbrev pub db_file_by : SharedWalOwnershipMode → List ℕ → List ℕ → List ℕ → List ℕ → ℕ → Bool
db_file_by mode bytes f o l i = db_file_cell mode (get_or f i unused) (get_or o i 0) (get_or l i 0) (get_or bytes i 0)

abbrev pub live_db_file_by : SharedWalOwnershipMode → List ℕ → SharedSlots → List ℕ → ℕ → Bool
live_db_file_by mode bytes s l i = live_by mode bytes s l i && eqb (get_or s.reader_frames.now i unused) 0

-- the number of refusal 14 or 15 of a call that probes so many slots, 0 for neither
abbrev pub probe_tests_by : ReaderSettings → List ℕ → List ℕ → List ℕ → List ℕ → ℕ → List Test
probe_tests_by settings bytes f o l looked =
    card_tests settings.n bytes ++ ((Probe if some_slot (failed_by settings.mode bytes f o l) looked 0) ∷ [])

unfoldable pub probe_refusal : ReaderSettings → List ℕ → List ℕ → List ℕ → List ℕ → ℕ → ℕ
probe_refusal settings bytes f o l looked = lowest (probe_tests_by settings bytes f o l looked)
