-- The card's greatest byte, by which all bytes are tested at once. Assumes nothing.
use mathlib.Core.Path.{◌≡◌, refl, sym, ◌∙◌}
use mathlib.Core.Bool.{false, not, ◌||◌}
use mathlib.Core.List.{List, [], ◌∷◌}
use Prim.Native.Nat.{ℕ, zero, suc, ◌<◌, ◌≤◌, max}
use native.Mathlib.Decide.{dec_le}
use native.Mathlib.Omega.{arith}
use lib.Dec.{eqb, ltb}
use lib.ListN.{length, get_or}
use borrow.Author.Tests.{lt-ltb, le-ltb, ne_eqb, eqb-true, eqb-false, ltb-false, not-false}
use Rattle.reader_slots.proofs.Calls.{neither_true, none_applies}
use Rattle.reader_slots.specs.Slots.{byte_above, is_bad_card, failed}
use Rattle.reader_slots.specs.Inner.{greatest, card_tests, card_refusal}
use Rattle.std.specs.List.{fold}

-- the greatest byte of a card, by its first
fold_max : (a : ℕ) (l : List ℕ) → fold max a l ≡ max a (fold max 0 l)
fold_max a [] = omega arith
fold_max a (b ∷ rest) = omega (arith, fold_max (max a b) rest, fold_max (max 0 b) rest)

greatest_cons : (b : ℕ) (rest : List ℕ) → greatest (b ∷ rest) ≡ max b (greatest rest)
unfolding greatest
greatest_cons b rest = omega (arith, fold_max (max 0 b) rest)

either_above : (b g : ℕ) → (ltb 2 b || ltb 2 g) ≡ ltb 2 (max b g)
either_above b g = go (dec_le 3 b) (dec_le 3 g)
  where
    go : Dec (3 ≤ b) → Dec (3 ≤ g) → (ltb 2 b || ltb 2 g) ≡ ltb 2 (max b g)
    go (yes p) d = rw (lt-ltb 2 b p, lt-ltb 2 (max b g) (omega arith))
    go (no f) (yes q) = rw (le-ltb 2 b (omega arith), lt-ltb 2 g q, lt-ltb 2 (max b g) (omega arith))
    go (no f) (no g') = rw (le-ltb 2 b (omega arith), le-ltb 2 g (omega arith), le-ltb 2 (max b g) (omega arith))

-- some byte is above 2 if the greatest is
pub above_by_greatest : (l : List ℕ) → byte_above l ≡ ltb 2 (greatest l)
unfolding byte_above greatest
above_by_greatest [] = refl
above_by_greatest (b ∷ rest) = rw (above_by_greatest rest, greatest_cons b rest) (either_above b (greatest rest))

-- every byte is at most the greatest
pub at_most_greatest : (l : List ℕ) (i : ℕ) → get_or l i 0 ≤ greatest l
at_most_greatest [] i = omega arith
at_most_greatest (b ∷ rest) zero = omega (arith, greatest_cons b rest)
at_most_greatest (b ∷ rest) (suc i) = omega (arith, greatest_cons b rest, at_most_greatest rest i)

-- no byte says error if the greatest is below 2
pub none_failed : (l : List ℕ) (i : ℕ) → greatest l < 2 → failed l i ≡ false
none_failed l i h = ne_eqb (get_or l i 0) 2 (λ e. omega (arith, at_most_greatest l i))

-- what refusal 14 leaves behind it
pub card_length : (n : ℕ) (l : List ℕ) → is_bad_card n l ≡ false → length l ≡ n
card_length n l e = eqb-true (length l) n (not-false (eqb (length l) n) (neither_true (not (eqb (length l) n)) (byte_above l) e).0)

pub card_fits : (n : ℕ) (l : List ℕ) → 0 ≡ card_refusal n l → length l ≡ n
unfolding card_refusal
card_fits n l e = card_length n l (none_applies (card_tests n l) (sym e)).0

-- such a card has no error byte unless the greatest is 2
pub below_two : (n : ℕ) (l : List ℕ) → is_bad_card n l ≡ false → eqb (greatest l) 2 ≡ false → greatest l < 2
below_two n l e f =
    let most = ltb-false 2 (greatest l) (sym (above_by_greatest l) ∙ (neither_true (not (eqb (length l) n)) (byte_above l) e).1) in
    let other = eqb-false (greatest l) 2 f in
    omega arith
