-- Words for the contracts of the cores, which are not lent the registry. Assumes nothing.
use Rattle.std.specs.Prelude.{List, ℕ}
use Rattle.wal_types.specs.Call.{Call, Answer}
use Rattle.reader_slots.specs.declared.slots.SharedSlots.{SharedSlots}
use Rattle.reader_slots.specs.Inner.{SameSlots}
use Rattle.reader_moves.specs.declared.update.SlotInRegistry.{SlotInRegistry}
use Rattle.reader_moves.specs.Update.{ReleaseCall}

-- A release of lent slots, by a process with the local owners l whose registry is as told.
abbrev pub LentRelease : ℕ → ℕ → SlotInRegistry → Call → SharedSlots → List ℕ → Answer → SharedSlots → List ℕ → Type 0
LentRelease n slot registry call s l a s' l' =
    SameSlots s s' × ReleaseCall n slot registry.is_shared registry.records call s.bitmap.now s.reader_frames.now s.reader_owners.now l a s'.bitmap.now s'.reader_frames.now s'.reader_owners.now l'
