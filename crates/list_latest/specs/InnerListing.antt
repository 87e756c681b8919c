-- What a list is made of. Assumes nothing.
use Rattle.std.specs.Prelude.{List, ℕ}
use Rattle.list_latest.specs.declared.listing.Listing.{Listing}
use Rattle.list_choose.specs.Chosen.{in_bounds}
use Rattle.list_latest.specs.Latest.{latest}

-- the entries that are listed: each page's latest among the visible ones, if its frame is within the bounds
abbrev pub to_list : Listing → List ℕ
to_list l = in_bounds l.visible.frames.now l.min_frame l.max_frame (latest l.visible.pages.now l.visible.hash.now l.visible.count)
