-- The lowest slot that a test picks. Assumes nothing.
use mathlib.Core.Path.{◌≡◌, refl, ◌∙◌}
use mathlib.Core.Bool.{Bool, true, false, cond}
use Prim.Native.Nat.{ℕ, zero, suc, ◌+◌, ◌-◌, ◌<◌, ◌≤◌}
use native.Mathlib.Nat.{eq-or-lt_of_le}
use native.Mathlib.Omega.{arith}
use mathlib.Core.Logic.{inl, inr}
use Rattle.std.specs.Prelude.{Option, Some, None}
use Rattle.std.specs.Option.{option_map, option_or}
use Rattle.std.specs.List.{find, range_with_len}
use Rattle.reader_slots.specs.Search.{lowest_slot}

split_turn : (t : Bool) (i : ℕ) (whole first second : Option ℕ) → whole ≡ option_or first second → cond t (Some i) whole ≡ option_or (cond t (Some i) first) second
split_turn true i whole first second e = refl
split_turn false i whole first second e = e

module _ (test : ℕ → Bool) where
  -- none of the slots is picked
  pub lowest_none : (left i : ℕ) → ((j : ℕ) → i ≤ j → j < i + left → test j ≡ false) → lowest_slot test left i ≡ None
  unfolding lowest_slot
  lowest_none zero i h = refl
  lowest_none (suc left) i h = rw (h i (omega arith) (omega arith)) (lowest_none left (i + 1) (λ j l m. h j (omega arith) (omega arith)))

  -- slot t is the first that is
  pub lowest_is : (left i t : ℕ) → i ≤ t → t < i + left → test t ≡ true → ((j : ℕ) → i ≤ j → j < t → test j ≡ false) → lowest_slot test left i ≡ Some t
  unfolding lowest_slot
  lowest_is zero i t l m e h = absurd (omega arith)
  lowest_is (suc left) i t l m e h =
      elim (eq-or-lt_of_le l) [
        | inl p ↦ rw (p, e)
        | inr p ↦ rw (h i (omega arith) p) (lowest_is left (i + 1) t (omega arith) (omega arith) e (λ j a b. h j (omega arith) b))
      ]

  -- of so many slots, and then so many more
  pub lowest_split : (a b i : ℕ) → lowest_slot test (a + b) i ≡ option_or (lowest_slot test a i) (lowest_slot test b (i + a))
  unfolding lowest_slot
  lowest_split zero b i = let e : 0 + b ≡ b = omega arith in let f : i + 0 ≡ i = omega arith in rw (e, f)
  lowest_split (suc a) b i = let e : suc a + b ≡ suc (a + b) = omega arith in let f : i + suc a ≡ i + 1 + a = omega arith in rw (e, f) (split_turn (test i) i _ _ _ (lowest_split a b (i + 1)))

below_turn : (t : Bool) (i left k : ℕ) (rest : Option ℕ) → (rest ≡ Some k → (i + 1 ≤ k) × (k < i + 1 + left)) → cond t (Some i) rest ≡ Some k → (i ≤ k) × (k < i + suc left)
below_turn true i left k rest ih e = let z : i ≡ k = cc in (omega arith, omega arith)
below_turn false i left k rest ih e = let z = ih e in (omega arith, omega arith)

-- a slot that is found is one of those looked at
pub lowest_below : (test : ℕ → Bool) (left i k : ℕ) → lowest_slot test left i ≡ Some k → (i ≤ k) × (k < i + left)
unfolding lowest_slot
lowest_below test zero i k e = cc
lowest_below test (suc left) i k e = below_turn (test i) i left k (lowest_slot test left (i + 1)) (lowest_below test left (i + 1) k) e

pub found_below : (test : ℕ → Bool) (n k : ℕ) → lowest_slot test n 0 ≡ Some k → k < n
found_below test n k e = let l = lowest_below test n 0 k e in omega arith

-- two tests that agree pick the same
pub lowest_same : (s t : ℕ → Bool) (left i : ℕ) → ((j : ℕ) → i ≤ j → j < i + left → s j ≡ t j) → lowest_slot s left i ≡ lowest_slot t left i
unfolding lowest_slot
lowest_same s t zero i h = refl
lowest_same s t (suc left) i h = rw (h i (omega arith) (omega arith), lowest_same s t left (i + 1) (λ j l m. h j (omega arith) (omega arith)))

-- the search with so many slots left, from slot i on
module _ (test : ℕ → Bool) (left i : ℕ) (whole : Option ℕ) (so_far : lowest_slot test left i ≡ whole) where
  -- slot i is the one
  pub lowest_here : 0 < left → test i ≡ true → Some i ≡ whole
  unfolding lowest_slot
  lowest_here l t = let more : left ≡ suc (left - 1) = omega arith in simp (more, t) at so_far

  -- it is not
  pub lowest_next : (less : ℕ) → left ≡ suc less → test i ≡ false → lowest_slot test less (i + 1) ≡ whole
  unfolding lowest_slot
  lowest_next less more t = simp (more, t) at so_far

  -- no slot is left
  pub lowest_done : left ≡ 0 → None ≡ whole
  unfolding lowest_slot
  lowest_done z = rw z at so_far

-- what is known of the slots before the one found, and of all where none is
before_turn : (test : ℕ → Bool) (t : Bool) (i left k : ℕ) (rest : Option ℕ) → test i ≡ t → (rest ≡ Some k → (test k ≡ true) × ((j : ℕ) → i + 1 ≤ j → j < k → test j ≡ false)) → cond t (Some i) rest ≡ Some k → (test k ≡ true) × ((j : ℕ) → i ≤ j → j < k → test j ≡ false)
before_turn test true i left k rest e ih f = let z : i ≡ k = cc in (rw (← z) e, λ j a b. absurd (omega arith))
before_turn test false i left k rest e ih f = ((ih f).0, at)
  where
    at : (j : ℕ) → i ≤ j → j < k → test j ≡ false
    at j a b = elim (eq-or-lt_of_le a) [ inl q ↦ rw (← q) e | inr q ↦ (ih f).1 j (omega arith) b ]

pub lowest_at : (test : ℕ → Bool) (left i k : ℕ) → lowest_slot test left i ≡ Some k → (test k ≡ true) × ((j : ℕ) → i ≤ j → j < k → test j ≡ false)
unfolding lowest_slot
lowest_at test zero i k e = cc
lowest_at test (suc left) i k e = before_turn test (test i) i left k (lowest_slot test left (i + 1)) refl (lowest_at test left (i + 1) k) e

none_turn : (test : ℕ → Bool) (t : Bool) (i left : ℕ) (rest : Option ℕ) → test i ≡ t → (rest ≡ None → (j : ℕ) → i + 1 ≤ j → j < i + 1 + left → test j ≡ false) → cond t (Some i) rest ≡ None → (j : ℕ) → i ≤ j → j < i + suc left → test j ≡ false
none_turn test true i left rest e ih f j a b = cc
none_turn test false i left rest e ih f j a b = elim (eq-or-lt_of_le a) [ inl q ↦ rw (← q) e | inr q ↦ ih f j (omega arith) (omega arith) ]

pub lowest_nothing : (test : ℕ → Bool) (left i : ℕ) → lowest_slot test left i ≡ None → (j : ℕ) → i ≤ j → j < i + left → test j ≡ false
unfolding lowest_slot
lowest_nothing test zero i e j a b = absurd (omega arith)
lowest_nothing test (suc left) i e j a b = none_turn test (test i) i left (lowest_slot test left (i + 1)) refl (λ f. lowest_nothing test left (i + 1) f) e j a b

-- `find` over so many slots, by a test that agrees on them
found_slot : (test s : ℕ → Bool) (left i : ℕ) → ((j : ℕ) → i ≤ j → j < i + left → s j ≡ test j) → find s (range_with_len i left) ≡ lowest_slot test left i
unfolding lowest_slot
found_slot test s zero i h = refl
found_slot test s (suc left) i h = rw (h i (omega arith) (omega arith), found_slot test s left (i + 1) (λ j a b. h j (omega arith) (omega arith)))

itself : (r : Option ℕ) → r ≡ option_map (λ x. x) r
itself None = refl
itself (Some k) = refl

pub lowest_by_find : (test s : ℕ → Bool) (n : ℕ) (r : Option ℕ) → option_map (λ x. x) r ≡ find s (range_with_len 0 n) → ((j : ℕ) → j < n → s j ≡ test j) → r ≡ lowest_slot test n 0
lowest_by_find test s n r e h = itself r ∙ (e ∙ found_slot test s n 0 (λ j a b. h j (omega arith)))
