-- Turns of a rollback's search for the kept length, and lists of more frames than those of the entries. Assumes nothing.
use mathlib.Core.Path.{◌≡◌, refl}
use mathlib.Core.List.{List, [], ◌∷◌, ◌++◌}
use Prim.Native.Nat.{ℕ, zero, suc, ◌-◌, ◌<◌, ◌≤◌}
use native.Mathlib.Omega.{arith}
use lib.Dec.{leb}
use mathlib.Core.Bool.{cond}
use lib.ListN.{length, get_or, take, get_or-append, length-append}
use lib.Seq.{get_or-take, length-take-le, get_or-append_seam}
use borrow.Author.Tests.{le-leb, lt-leb}
use Rattle.index_end.specs.Kept.{kept_of}
use Rattle.index_end.specs.Place.{out_of_order}

module _ (bound : ℕ) where
  -- the frames after the first n do not decide how many of those are kept
  kept_same : (n : ℕ) (fs gs : List ℕ) → ((i : ℕ) → i < n → get_or fs i 0 ≡ get_or gs i 0) → kept_of n fs bound ≡ kept_of n gs bound
  unfolding kept_of
  kept_same zero fs gs e = refl
  kept_same (suc n) fs gs e = rw (e n (omega arith), kept_same n fs gs (λ i l. e i (omega arith)))

  pub kept_front : (frames : List ℕ) (n : ℕ) → n ≤ length frames → kept_of (length (take n frames)) (take n frames) bound ≡ kept_of n frames bound
  kept_front frames n l = rw (length-take-le n frames l) (kept_same n (take n frames) frames (λ i b. get_or-take n frames i 0 b))

  module _ (before : List ℕ) (last : ℕ) where
    turn : kept_of (length (before ++ (last ∷ []))) (before ++ (last ∷ [])) bound ≡ cond (leb last bound) (length (before ++ (last ∷ []))) (kept_of (length before) before bound)
    unfolding kept_of
    turn =
        let one_more : length (before ++ (last ∷ [])) ≡ suc (length before) = simp length-append (omega arith) in
        rw (one_more, get_or-append_seam before last [] 0, kept_same (length before) (before ++ (last ∷ [])) before (λ i l. get_or-append before (last ∷ []) 0 i l))

    -- the last frame is within the bound: all are kept
    pub kept_here : (kept : List ℕ) → kept ≡ before ++ (last ∷ []) → last ≤ bound → length kept ≡ kept_of (length kept) kept bound
    kept_here kept e l = rw (e, turn, le-leb _ _ l)

    -- it is above: the frames before decide
    pub kept_before : (kept : List ℕ) → kept ≡ before ++ (last ∷ []) → bound < last → kept_of (length before) before bound ≡ kept_of (length kept) kept bound
    kept_before kept e l = rw (e, turn, lt-leb _ _ l)

  pub kept_none : (kept : List ℕ) → length kept ≡ 0 → 0 ≡ kept_of (length kept) kept bound
  unfolding kept_of
  kept_none kept e = rw e

-- nor do they decide whether a frame is out of order
pub order_front : (frames : List ℕ) (n : ℕ) → n ≤ length frames → (frame : ℕ) → out_of_order frame (length (take n frames)) (take n frames) ≡ out_of_order frame n frames
order_front frames n l frame = rw (length-take-le n frames l) (go n l)
  where
    go : (k : ℕ) → k ≤ length frames → out_of_order frame k (take k frames) ≡ out_of_order frame k frames
    go zero e = refl
    go (suc k) e = rw (get_or-take (suc k) frames (suc k - 1) 0 (omega arith))
