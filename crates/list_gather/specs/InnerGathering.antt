-- How the gathering goes on. Assumes nothing.
use Rattle.std.specs.Prelude.{◌≡◌, List, ◌++◌, ℕ, ◌+◌, ◌<◌, ◌≤◌, length, get_or, take}
use Rattle.list_gather.specs.declared.gather.Gathered.{Gathered}
use Rattle.list_gather.specs.InnerGathered.{head_of}

-- the entries that are gathered
abbrev pub gathered : Gathered → List ℕ
gathered g = take g.count g.list.now

-- the same lent list, whatever is in it
abbrev pub SameList : Gathered → Gathered → Type 0
SameList old new = new.list.ghost_name ≡ old.list.ghost_name

-- a guess that is not 0 is a gathered entry
abbrev pub Guessed : Gathered → Type 0
Guessed g = (slot : ℕ) → slot < 1024 → 0 < get_or g.guesses.now slot 0 → (j : ℕ) × (j < length (gathered g)) × (get_or (gathered g) j 0 ≡ get_or g.guesses.now slot 0)

-- Of the entries to come some are gathered, and others left: of n places that were enough for those to come, m are enough for
-- those left. The gathered ones with those left have each page's first entry as before.
pub record Gathering (pages : List ℕ) (old new : Gathered) (to_come left : List ℕ) (n m : ℕ) : Type 0 where
  pub same_room : length new.list.now ≡ length old.list.now
  pub enough : new.count + m ≤ old.count + n
  pub guessed : Guessed new
  pub heads : (page : ℕ) → head_of pages page (gathered new ++ left) ≡ head_of pages page (gathered old ++ to_come)
