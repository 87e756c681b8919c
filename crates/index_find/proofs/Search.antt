-- Turns of the binary search for the visible entries. Assumes nothing.
use mathlib.Core.Path.{◌≡◌, refl}
use mathlib.Core.Bool.{Bool, true, false, cond}
use mathlib.Core.List.{List}
use Prim.Native.Nat.{ℕ, zero, suc, ◌+◌, ◌-◌, ◌/◌, ◌<◌, ◌≤◌}
use native.Mathlib.Omega.{arith}
use lib.Dec.{leb, ltb}
use lib.ListN.{length, get_or, take}
use lib.Seq.{get_or-take, length-take-le}
use borrow.Author.Tests.{lt-ltb, le-ltb, le-leb, lt-leb, ltb-true}
use Rattle.index_find.specs.Find.{visible_from, visible}

module _ (frames : List ℕ) (top low high : ℕ) where
  abbrev mid : ℕ
  mid = low + (high - low) / 2

  -- an empty range ends the search
  pub search_ends : (fuel : ℕ) → high ≤ low → visible_from fuel frames top low high ≡ low
  unfolding visible_from
  search_ends zero l = refl
  search_ends (suc fuel) l = rw (le-ltb low high l)

  -- the rest of the search is the whole, in the upper half or in the lower
  pub search_up : (fuel f w : ℕ) → fuel ≡ suc f → low < high → get_or frames mid 0 ≤ top → visible_from fuel frames top low high ≡ w → visible_from f frames top (mid + 1) high ≡ w
  unfolding visible_from
  search_up fuel f w s l t e = rw (s, lt-ltb low high l, le-leb _ _ t) at e

  pub search_down : (fuel f w : ℕ) → fuel ≡ suc f → low < high → top < get_or frames mid 0 → visible_from fuel frames top low high ≡ w → visible_from f frames top low mid ≡ w
  unfolding visible_from
  search_down fuel f w s l t e = rw (s, lt-ltb low high l, lt-leb _ _ t) at e

pub search_starts : (frames : List ℕ) (len top : ℕ) → visible_from len frames top 0 len ≡ visible frames len top
unfolding visible
search_starts frames len top = refl

-- The frames after those that are searched are not looked at.
front_from : (fuel : ℕ) (frames : List ℕ) (n top low high : ℕ) → high ≤ n → visible_from fuel (take n frames) top low high ≡ visible_from fuel frames top low high
unfolding visible_from
front_from zero frames n top low high l = refl
front_from (suc fuel) frames n top low high l = go (ltb low high) refl (λ low high. front_from fuel frames n top low high)
  where
    turn : Bool → List ℕ → ℕ
    turn b fs =
        cond b
        (cond (leb (get_or fs (low + (high - low) / 2) 0) top)
        (visible_from fuel fs top (low + (high - low) / 2 + 1) high)
        (visible_from fuel fs top low (low + (high - low) / 2)))
        low

    go : (b : Bool) → ltb low high ≡ b → ((low high : ℕ) → high ≤ n → visible_from fuel (take n frames) top low high ≡ visible_from fuel frames top low high) → turn b (take n frames) ≡ turn b frames
    go true e rest =
        let below = ltb-true _ _ e in
        rw (get_or-take n frames (low + (high - low) / 2) 0 (omega arith), rest (low + (high - low) / 2 + 1) high l, rest low (low + (high - low) / 2) (omega arith))
    go false e rest = refl

pub visible_front : (frames : List ℕ) (n top : ℕ) → n ≤ length frames → visible (take n frames) (length (take n frames)) top ≡ visible frames n top
unfolding visible
visible_front frames n top l = rw (length-take-le n frames l) (front_from n frames n top 0 n (omega arith))
