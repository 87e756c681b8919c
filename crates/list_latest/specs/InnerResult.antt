-- What iter_latest_frames gives: its answer and its output cells (document 01, "iter_latest_frames" and refusal 5). Assumes nothing.
use Rattle.std.specs.Prelude.{◌≡◌, Result, Ok, Err, List, ◌++◌, map, ℕ, length, drop}
use Rattle.wal_types.specs.declared.refusal.Refusal.{Refusal}
use Rattle.wal_types.specs.Refusal.{number}
use Rattle.wal_types.specs.Memory.{Memory, Process}
use Rattle.wal_types.specs.Call.{Pair, Call, listed, refused, done, after}

-- Accepted: the call answers these pairs and changes nothing; their pages and frames are in the first output cells, and the
-- cells past them are as they were.
pub record IsListed (call : Call) (m : Memory) (p : Process) (n : ℕ) (old_pages old_frames new_pages new_frames : List ℕ) : Type 0 where
  pub pairs : List Pair
  pub answered : after call m p ≡ done (listed pairs) m p
  pub count : n ≡ length pairs
  pub pages_written : new_pages ≡ map (λ q. q.page) pairs ++ drop (length pairs) old_pages
  pub frames_written : new_frames ≡ map (λ q. q.frame) pairs ++ drop (length pairs) old_frames

-- Refused: the call is refused with this refusal's number and changes nothing; no output cell is written.
pub record IsRefused (call : Call) (m : Memory) (p : Process) (r : Refusal) (old_pages old_frames new_pages new_frames : List ℕ) : Type 0 where
  pub answered : after call m p ≡ done (refused (number r)) m p
  pub pages_kept : new_pages ≡ old_pages
  pub frames_kept : new_frames ≡ old_frames

-- The code's result, and its output cells before and after, are the call's on memory m.
abbrev pub Lists : Call → Memory → Process → Result ℕ Refusal → List ℕ → List ℕ → List ℕ → List ℕ → Type 0
Lists call m p (Ok n) old_pages old_frames new_pages new_frames = IsListed call m p n old_pages old_frames new_pages new_frames
Lists call m p (Err r) old_pages old_frames new_pages new_frames = IsRefused call m p r old_pages old_frames new_pages new_frames
