-- How given entries are listed: their pairs, or refusal 5. Assumes nothing.
use Rattle.std.specs.Prelude.{◌≡◌, Result, Ok, Err, List, ◌++◌, map, true, ◌||◌, ℕ, ◌≤◌, ltb, length, get_or, drop}
use Rattle.wal_types.specs.declared.refusal.Refusal.{Refusal}
use Rattle.wal_types.specs.declared.refusal.Refusal.TheVariants.{ShortList}

-- The pairs of all entries are in the first output cells, and the cells past them are as they were.
pub record Written (pages frames entries : List ℕ) (n : ℕ) (old_pages old_frames new_pages new_frames : List ℕ) : Type 0 where
  pub count : n ≡ length entries
  pub pages_room : n ≤ length old_pages
  pub frames_room : n ≤ length old_frames
  pub pages_written : new_pages ≡ map (λ e. get_or pages e 0) entries ++ drop n old_pages
  pub frames_written : new_frames ≡ map (λ e. get_or frames e 0) entries ++ drop n old_frames

-- There are fewer output cells than entries: refusal 5, and no output cell is written.
pub record TooMany (entries : List ℕ) (r : Refusal) (old_pages old_frames new_pages new_frames : List ℕ) : Type 0 where
  pub too_few_cells : r ≡ ShortList
  pub short : (ltb (length old_pages) (length entries) || ltb (length old_frames) (length entries)) ≡ true
  pub pages_kept : new_pages ≡ old_pages
  pub frames_kept : new_frames ≡ old_frames

-- one or the other, by the result
abbrev pub Writes : List ℕ → List ℕ → List ℕ → Result ℕ Refusal → List ℕ → List ℕ → List ℕ → List ℕ → Type 0
Writes pages frames entries (Ok n) old_pages old_frames new_pages new_frames = Written pages frames entries n old_pages old_frames new_pages new_frames
Writes pages frames entries (Err r) old_pages old_frames new_pages new_frames = TooMany entries r old_pages old_frames new_pages new_frames
