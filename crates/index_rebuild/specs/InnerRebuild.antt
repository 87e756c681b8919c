-- A block's hash while it is built anew. Assumes nothing.
use Rattle.std.specs.Prelude.{◌≡◌}
use Rattle.index_rebuild.specs.declared.rebuild.Rebuild.{Rebuild}

-- it is of the same hash and the same pages as before
abbrev pub SameBlock : Rebuild → Rebuild → Type 0
SameBlock before after = (after.hash.ghost_name ≡ before.hash.ghost_name) × (after.pages.now ≡ before.pages.now)
