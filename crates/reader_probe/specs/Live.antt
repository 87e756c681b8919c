-- Slots as the calls that look at every reader meet them (document 01, "Floor"). Assumes nothing.
use Rattle.std.specs.Prelude.{Option, Some, None, unwrap_or, Bool, not, ◌&&◌, ◌||◌, cond, List, ℕ, min, eqb, get_or}
use Rattle.wal_types.specs.declared.SharedWalOwnershipMode.{SharedWalOwnershipMode}
use Rattle.wal_types.specs.Settings.{unused, is_fcntl}
use Rattle.wal_types.specs.Memory.{Memory, Process}
use Rattle.reader_slots.specs.Slots.{held, granted, failed}

-- a slot that is skipped: frame UNUSED, or in Fcntl owner 0
abbrev pub skipped : SharedWalOwnershipMode → Memory → ℕ → Bool
skipped mode m i =
    eqb (get_or m.reader_frames i unused) unused || (is_fcntl mode && eqb (get_or m.reader_owners i 0) 0)

-- a dead slot, which is reclaimed: not skipped, not held here, its card 1
abbrev pub dead : SharedWalOwnershipMode → List ℕ → Process → Memory → ℕ → Bool
dead mode bytes p m i = not (skipped mode m i) && not (held p i) && granted bytes i

-- a live slot, which is counted
abbrev pub live : SharedWalOwnershipMode → List ℕ → Process → Memory → ℕ → Bool
live mode bytes p m i = not (skipped mode m i) && (held p i || not (granted bytes i))

-- a slot whose probe failed: in LinuxOfd, card 2 at a slot neither held nor skipped
abbrev pub probe_failed : SharedWalOwnershipMode → List ℕ → Process → Memory → ℕ → Bool
probe_failed mode bytes p m i = not (is_fcntl mode) && not (skipped mode m i) && not (held p i) && failed bytes i

-- the lesser of a floor and a mark; mark 0 is a database file reader and never the floor
abbrev pub lower_floor : Option ℕ → ℕ → Option ℕ
lower_floor (Some f) mark = cond (eqb mark 0) (Some f) (Some (min f mark))
lower_floor None mark = cond (eqb mark 0) None (Some mark)

-- how many slots a search looks at before the one that it finds
abbrev pub looked_at : ℕ → Option ℕ → ℕ
looked_at n found = unwrap_or found n
