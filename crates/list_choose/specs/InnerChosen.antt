-- The entries within given bounds, and what is chosen so far. Assumes nothing.
use Rattle.std.specs.Prelude.{◌≡◌, List, ℕ, length, take}
use Rattle.list_choose.specs.declared.choose.Chosen.{Chosen}
use Rattle.list_choose.specs.declared.choose.FrameBounds.{FrameBounds}
use Rattle.list_choose.specs.Chosen.{in_bounds}

-- those of the entries whose frames are within the bounds
abbrev pub listed : FrameBounds → List ℕ → List ℕ
listed b l = in_bounds b.frames.now b.min_frame b.max_frame l

-- the entries that are chosen
abbrev pub chosen : Chosen → List ℕ
chosen c = take c.count c.list.now

-- the same lent list, and as long, whatever is in it
abbrev pub SameList : Chosen → Chosen → Type 0
SameList old new = (new.list.ghost_name ≡ old.list.ghost_name) × (length new.list.now ≡ length old.list.now)
