-- A frame of a page between two frames (document 02, Slip 2). Assumes nothing.
use Rattle.std.specs.Prelude.{◌≡◌, Option, Some, None, Result, Ok, Err, ℕ, zero, suc, ◌<◌, ◌≤◌}
use mathlib.Core.List.{List, [], ◌∷◌, Memᴰ}
use Rattle.wal_types.specs.declared.refusal.Refusal.{Refusal}
use Rattle.wal_types.specs.Refusal.{number}
use Rattle.wal_types.specs.Call.{Pair, pair, Call}
use Rattle.index_find.specs.Find.{else_look}
use Rattle.index_grown.specs.Entries.{frame_in}
use Rattle.index_scan.specs.Scan.{scan}

-- a frame, if there is one, before others
abbrev pub before_frames : Option ℕ → List ℕ → List ℕ
before_frames (Some f) rest = f ∷ rest
before_frames None rest = rest

-- The frames of a page's pairs that are from low to high, both included, in the order of the pairs.
unfoldable pub frames_between : List Pair → ℕ → ℕ → ℕ → List ℕ
frames_between [] page low high = []
frames_between (q ∷ rest) page low high = before_frames (frame_in page low high q) (frames_between rest page low high)

-- One of them by a choice, a number: 0 is the first, a number past the last is the last. Of none there is none.
unfoldable pub chosen : ℕ → List ℕ → Option ℕ
chosen choice [] = None
chosen zero (f ∷ rest) = Some f
chosen (suc choice) (f ∷ rest) = else_look (chosen choice rest) (Some f)

-- THE FRAME THAT THE SEARCH GIVES among these pairs, by a choice
abbrev pub frame_chosen : List Pair → ℕ → ℕ → ℕ → ℕ → Option ℕ
frame_chosen es page low high choice = chosen choice (frames_between es page low high)

-- the call, by a choice
unfoldable pub frame_between : ℕ → ℕ → ℕ → ℕ → ℕ → ℕ → Call
frame_between capacity b page low high choice = scan capacity b (λ es. frame_chosen es page low high choice)

-- UNDECIDED: what is said of a call is true of it by some choice. By which one is not said, and no caller may count on it.
abbrev pub Undecided : (ℕ → Call) → (Call → Type 0) → Type 0
Undecided call says = (choice : ℕ) × says (call choice)

-- What is promised whatever the choice: by properties.
-- f is a frame of the page, and between them
pub record IsBetween (es : List Pair) (page low high f : ℕ) : Type 0 where
  pub of_page : Memᴰ (pair page f) es
  pub from_low : low ≤ f
  pub to_high : f ≤ high

-- an answer is such a frame, or none exactly when there is none; a refusal has a number, which is not 0
abbrev pub BetweenTold : List Pair → ℕ → ℕ → ℕ → Result (Option ℕ) Refusal → Type 0
BetweenTold es page low high (Ok (Some f)) = IsBetween es page low high f
BetweenTold es page low high (Ok None) = (f : ℕ) → IsBetween es page low high f → ⊥
BetweenTold es page low high (Err r) = number r ≡ 0 → ⊥

-- The choices are the frames between the bounds: all of them, and nothing else.
pub record Choices (es : List Pair) (page low high : ℕ) : Type 0 where
  -- a frame that is chosen is one of the page, between the bounds
  pub any_choice : (choice f : ℕ) → frame_chosen es page low high choice ≡ Some f → IsBetween es page low high f
  -- every such frame is some choice's
  pub every_frame : (f : ℕ) → IsBetween es page low high f → (choice : ℕ) × (frame_chosen es page low high choice ≡ Some f)
  -- none exactly when there is none
  pub none_when : (choice : ℕ) → ((f : ℕ) → IsBetween es page low high f → ⊥) → frame_chosen es page low high choice ≡ None
  pub none_only : (choice : ℕ) → frame_chosen es page low high choice ≡ None → (f : ℕ) → IsBetween es page low high f → ⊥
  -- bounds in the wrong order
  pub wrong_order : (choice : ℕ) → high < low → frame_chosen es page low high choice ≡ None

-- Of any pairs, as damaged memory has them too.
abbrev pub BetweenChoices : Type 0
BetweenChoices = (es : List Pair) (page low high : ℕ) → Choices es page low high
