-- What a probe of one block, and the near cells of all, tell the lookup. Assumes nothing.
use Rattle.std.specs.Prelude.{Option, Some, None, ◌≡◌, ℕ, ◌+◌, ◌<◌, ◌≤◌}
use Rattle.wal_types.specs.Settings.{block_entries}
use Rattle.index_find.specs.declared.find.NearBlocks.{NearBlocks}
use Rattle.index_find.specs.declared.find.NearBlocks.TheVariants.{Ended, Left}

-- the place found is one of the block's
abbrev pub InBlock : Option ℕ → Type 0
InBlock (Some i) = i < block_entries
InBlock None = Unit

-- what the near cells of the blocks tell, given what the first k blocks have, of the frame and of the cells looked at: that of
-- all blocks; or what is left decides
abbrev pub NearTold : (ℕ → Option ℕ) → (ℕ → ℕ) → ℕ → NearBlocks → Type 0
NearTold found cells all (Ended looked) = (looked.found ≡ found all) × (looked.cells ≡ cells all)
NearTold found cells all (Left k c) = (k ≤ all) × ((found k ≡ found all) × (c + cells k ≡ cells all))
