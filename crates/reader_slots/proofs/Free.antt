-- The free slots of one word of the bitmap, looked at from the lowest set bit on. Assumes nothing.
use mathlib.Core.Path.{◌≡◌, refl, sym, ◌∙◌}
use mathlib.Core.Bool.{Bool, true, false, not, ◌&&◌}
use mathlib.Core.List.{List}
use Prim.Native.Nat.{ℕ, ◌+◌, ◌-◌, ◌<◌, ◌≤◌}
use native.Mathlib.Decide.{ℕ_discrete}
use native.Mathlib.Omega.{arith}
use lib.Dec.{eqb}
use lib.ListN.{get_or}
use Rattle.std.specs.Prelude.{Option, Some, None}
use Rattle.wal_types.specs.Memory.{bit_at}
use Rattle.word_bits.specs.Bit.{clear_bit, Lowest}
use Rattle.word_bits.proofs.Bits.{clear_other, clear_less}
use Rattle.reader_slots.specs.Search.{lowest_slot}
use Rattle.reader_slots.specs.Inner.{available_in}
use Rattle.reader_slots.proofs.Lowest.{lowest_none, lowest_is, lowest_same}

-- the slot can be locked: it is granted and not held here
abbrev pub ready : List ℕ → List ℕ → ℕ → Bool
ready locals bytes i = eqb (get_or locals i 0) 0 && eqb (get_or bytes i 0) 1

-- a slot is available if its bit is 1 and it can be locked
set_ready : (a g : Bool) → (a && g) ≡ true → (not (not a) && true && g) ≡ true
set_ready true g e = e
set_ready false g e = e

unset : (a g : Bool) → (not (not a) && false && g) ≡ false
unset true g = refl
unset false g = refl

unready : (a b g : Bool) → (a && g) ≡ false → (not (not a) && b && g) ≡ false
unready true true g e = e
unready true false g e = refl
unready false b g e = refl

-- the word's bits that are still to be looked at, and the lowest of them
module _ (left first end : ℕ) (locals bytes : List ℕ) (whole : Option ℕ) (so_far : lowest_slot (available_in left first locals bytes) (end - first) first ≡ whole) (t : ℕ) (low : Lowest left t) where
  below_unset : (j : ℕ) → first ≤ j → j < first + t → available_in left first locals bytes j ≡ false
  below_unset j a b = rw (low.before (j - first) (omega arith)) (unset (eqb (get_or locals j 0) 0) (eqb (get_or bytes j 0) 1))

  -- it lies past the last slot
  pub free_past : first ≤ end → end ≤ first + t → None ≡ whole
  free_past s p = sym (lowest_none (available_in left first locals bytes) (end - first) first (λ j a b. below_unset j a (omega arith))) ∙ so_far

  module _ (s : first ≤ end) (p : first + t < end) (q : t < 64) where
    -- its slot can be locked
    pub free_found : ready locals bytes (first + t) ≡ true → Some (first + t) ≡ whole
    free_found y =
        let e : first + t - first ≡ t = omega arith in
        let here : available_in left first locals bytes (first + t) ≡ true = rw (e, low.here q) (set_ready (eqb (get_or locals (first + t) 0) 0) (eqb (get_or bytes (first + t) 0) 1) y) in
        sym (lowest_is (available_in left first locals bytes) (end - first) first (first + t) (omega arith) (omega arith) here below_unset) ∙ so_far

    -- it cannot, and its bit is dropped
    pub free_next : ready locals bytes (first + t) ≡ false → lowest_slot (available_in (clear_bit left t) first locals bytes) (end - first) first ≡ whole
    free_next y = lowest_same (available_in (clear_bit left t) first locals bytes) (available_in left first locals bytes) (end - first) first (λ j a b. at j a (ℕ_discrete j (first + t))) ∙ so_far
      where
        at : (j : ℕ) → first ≤ j → Dec (j ≡ first + t) → available_in (clear_bit left t) first locals bytes j ≡ available_in left first locals bytes j
        at j a (yes e) =
            rw e (unready (eqb (get_or locals (first + t) 0) 0) (eqb (bit_at (clear_bit left t) (first + t - first)) 1) (eqb (get_or bytes (first + t) 0) 1) y
            ∙ sym (unready (eqb (get_or locals (first + t) 0) 0) (eqb (bit_at left (first + t - first)) 1) (eqb (get_or bytes (first + t) 0) 1) y))
        at j a (no f) = rw (clear_other t (j - first) left (λ e. f (omega arith)))

pub free_less : (left t : ℕ) → Lowest left t → t < 64 → clear_bit left t < left
free_less left t low q = clear_less left t (low.here q)
