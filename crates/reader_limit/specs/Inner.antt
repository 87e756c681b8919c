-- The word of the inner call's contract, over lent slots. Assumes nothing.
use Rattle.std.specs.Prelude.{List, ℕ}
use Rattle.wal_types.specs.Call.{Call, Answer}
use Rattle.reader_slots.specs.declared.slots.SharedSlots.{SharedSlots}
use Rattle.reader_slots.specs.Inner.{SameSlots}
use Rattle.reader_limit.specs.Limit.{LimitCall}

-- LimitCall of the lent slots, which stay the same lists
abbrev pub LentLimit : Call → ℕ → ℕ → SharedSlots → List ℕ → Answer → SharedSlots → Type 0
LentLimit call published copied s l a s' =
    SameSlots s s' × LimitCall call published copied s.bitmap.now s.reader_frames.now s.reader_owners.now l a s'.bitmap.now s'.reader_frames.now s'.reader_owners.now
