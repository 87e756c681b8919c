-- Words for the contracts of the inner functions, by the calls' own definitions. No contract of a C function cites them.
-- Assumes nothing.
use Rattle.std.specs.Prelude.{◌≡◌, Option, is_some, Bool, List, ◌++◌, ℕ, length}
use Rattle.wal_types.specs.Memory.{Memory, Process}
use Rattle.wal_types.specs.Store.{apply}
use Rattle.wal_types.specs.Refusal.{Test, lowest}
use Rattle.wal_types.specs.declared.settings.ReaderSettings.{ReaderSettings}
use Rattle.reader_slots.specs.declared.slots.SharedSlots.{SharedSlots}
use Rattle.reader_slots.specs.Slots.{locals_in}
use Rattle.reader_slots.specs.Search.{lowest_slot, some_slot}
use Rattle.reader_slots.specs.Inner.{lent_in, SlotsBecome, length_tests, slots_tests}
use Rattle.reader_probe.specs.Live.{looked_at}
use Rattle.reader_probe.specs.Inner.{live_db_file_by, probe_tests_by}
use Rattle.reader_probe.specs.declared.live.LiveMarks.{LiveMarks}
use Rattle.reader_floor.specs.Floor.{floor_of, reclaim_dead}

-- the refusal of a call that probes every slot, 0 for none, by how many words of the bitmap are lent and by lists
unfoldable pub lists_refusal : ReaderSettings → List ℕ → ℕ → List ℕ → List ℕ → List ℕ → ℕ
lists_refusal settings bytes words f o l =
    lowest (length_tests settings.n words (length f) (length o) (length l) ++ probe_tests_by settings bytes f o l settings.n)

-- the tests of a call that probes so many slots, by the lent slots
abbrev pub tests_by : ReaderSettings → List ℕ → SharedSlots → List ℕ → ℕ → List Test
tests_by settings bytes s l looked =
    slots_tests settings.n s l ++ probe_tests_by settings bytes s.reader_frames.now s.reader_owners.now l looked

-- the refusal of a call that probes every slot, 0 for none
unfoldable pub all_slots_refusal : ReaderSettings → List ℕ → SharedSlots → List ℕ → ℕ
all_slots_refusal settings bytes s l = lowest (tests_by settings bytes s l settings.n)

-- Any memory with the lent slots in it and any process with the local owners l: r has the floor, and whether a live
-- slot has mark 0; and the slots become those with the dead ones reclaimed.
unfoldable pub MarksOf : ReaderSettings → List ℕ → SharedSlots → List ℕ → LiveMarks → SharedSlots → Type 0
MarksOf settings bytes s l r s' =
    (some_slot (live_db_file_by settings.mode bytes s l) settings.n 0 ≡ r.db_file_reader)
    × ((z : Memory) (p : Process) → floor_of settings.n settings.mode bytes (lent_in z s) (locals_in p l) ≡ r.floor)
    × SlotsBecome (λ m p. apply (reclaim_dead settings.mode bytes p settings.n m) m) s l s'

-- the first live slot with mark 0
abbrev pub first_db_file : ReaderSettings → List ℕ → SharedSlots → List ℕ → Option ℕ
first_db_file settings bytes s l = lowest_slot (live_db_file_by settings.mode bytes s l) settings.n 0

-- Whether there is one; and the slots become those with the dead ones before it reclaimed.
unfoldable pub DbFileOf : ReaderSettings → List ℕ → SharedSlots → List ℕ → Bool → SharedSlots → Type 0
DbFileOf settings bytes s l r s' =
    (is_some (first_db_file settings bytes s l) ≡ r)
    × SlotsBecome (λ m p. apply (reclaim_dead settings.mode bytes p (looked_at settings.n (first_db_file settings bytes s l)) m) m) s l s'
