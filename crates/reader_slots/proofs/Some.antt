-- Whether a test holds of some slot. Assumes nothing.
use mathlib.Core.Path.{◌≡◌, refl, ◌∙◌}
use mathlib.Core.Bool.{Bool, true, false, ◌||◌}
use mathlib.Core.Logic.{inl, inr}
use Prim.Native.Nat.{ℕ, zero, suc, ◌+◌, ◌<◌, ◌≤◌}
use native.Mathlib.Nat.{eq-or-lt_of_le}
use native.Mathlib.Omega.{arith}
use Rattle.std.specs.List.{list_any, range_with_len}
use Rattle.reader_slots.specs.Search.{some_slot}

-- a test that holds of none
pub some_none : (test : ℕ → Bool) (left i : ℕ) → ((j : ℕ) → test j ≡ false) → some_slot test left i ≡ false
unfolding some_slot
some_none test zero i h = refl
some_none test (suc left) i h = rw (h i) (some_none test left (i + 1) h)

some_turn : (test : ℕ → Bool) (t rest : Bool) (i left : ℕ) → test i ≡ t → (rest ≡ false → (j : ℕ) → i + 1 ≤ j → j < i + 1 + left → test j ≡ false) → (t || rest) ≡ false → (j : ℕ) → i ≤ j → j < i + suc left → test j ≡ false
some_turn test true rest i left e ih f j a b = let z : ◌≡◌ {A = Bool} true false = f in cc
some_turn test false rest i left e ih f j a b = elim (eq-or-lt_of_le a) [ inl q ↦ rw (← q) e | inr q ↦ ih f j (omega arith) (omega arith) ]

pub some_false : (test : ℕ → Bool) (left i : ℕ) → some_slot test left i ≡ false → (j : ℕ) → i ≤ j → j < i + left → test j ≡ false
unfolding some_slot
some_false test zero i e j a b = absurd (omega arith)
some_false test (suc left) i e j a b = some_turn test (test i) (some_slot test left (i + 1)) i left refl (λ f. some_false test left (i + 1) f) e j a b

-- `any` over so many slots, by a test that agrees on them
any_slot : (test s : ℕ → Bool) (left i : ℕ) → ((j : ℕ) → i ≤ j → j < i + left → s j ≡ test j) → list_any s (range_with_len i left) ≡ some_slot test left i
unfolding some_slot
any_slot test s zero i h = refl
any_slot test s (suc left) i h = rw (h i (omega arith) (omega arith), any_slot test s left (i + 1) (λ j a b. h j (omega arith) (omega arith)))

pub some_by_any : (test s : ℕ → Bool) (n : ℕ) (r : Bool) → r ≡ list_any s (range_with_len 0 n) → ((j : ℕ) → j < n → s j ≡ test j) → r ≡ some_slot test n 0
some_by_any test s n r e h = e ∙ any_slot test s n 0 (λ j a b. h j (omega arith))
