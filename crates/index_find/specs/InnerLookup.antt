-- What a lookup finds, block by block. Assumes nothing.
use Rattle.std.specs.Prelude.{Option, ℕ}
use Rattle.index_find.specs.declared.find.Lookup.{Lookup}
use Rattle.index_find.specs.Find.{probe_block, looked_block, find_in, looked_in}

-- block k's probe, and how many cells it looks at
abbrev pub probed_in : Lookup → ℕ → Option ℕ
probed_in l k = probe_block k l.page_id l.visible_slots l.pages.now l.hash.now

abbrev pub looked_at : Lookup → ℕ → ℕ
looked_at l k = looked_block k l.page_id l.visible_slots l.hash.now

-- the frame in the first k blocks, and how many cells they are looked at
abbrev pub found_in : Lookup → ℕ → Option ℕ
found_in l k = find_in k l.visible_slots l.pages.now l.frames.now l.hash.now l.page_id l.min_frame l.max_frame

abbrev pub cells_in : Lookup → ℕ → ℕ
cells_in l k = looked_in k l.visible_slots l.pages.now l.frames.now l.hash.now l.page_id l.min_frame l.max_frame
