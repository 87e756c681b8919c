-- Laws of one bit of a word: masks, the count of trailing zeros, and what setting and clearing one bit does to each. Assumes nothing.
use mathlib.Core.Path.{◌≡◌, refl, sym, ap, ap₂, ◌∙◌}
use Prim.Native.Nat.{ℕ, zero, suc, ◌+◌, ◌-◌, ◌*◌, ◌/◌, ◌%◌, ◌^◌, ◌<◌, ◌≤◌, min}
use native.Mathlib.Nat.{mod-eq_of_lt, pow-suc, one-mul, mul_assoc}
use native.Mathlib.Omega.{arith}
use lib.Dec.{lit<}
use lib.Pow.{pow_pos, pow-lt, shl_exact}
use lib.Bits.{bit_and, bit_or, and_step, or_add_and, or_lt, and_mask}
use lib.Count.{count_trailing_zeros, under, trailing_le}
use Rattle.std.proofs.lemmas.Nat.Bits.{bit_at_lowest, bit_at-suc, bit_at-zero, bit_at-lt, and_pow, bit_at_and, same_from_bits}
use Rattle.std.specs.Int.{bit_at as std_bit_at}
use Rattle.wal_types.specs.Memory.{bit_at}
use Rattle.word_bits.specs.Bit.{set_bit, clear_bit, Lowest}

bit_zero : (n : ℕ) → bit_at n 0 ≡ n % 2
unfolding bit_at
bit_zero n = bit_at_lowest n

bit_suc : (n i : ℕ) → bit_at n (suc i) ≡ bit_at (n / 2) i
unfolding bit_at
bit_suc n i = bit_at-suc n i

-- the code's mask 1 << i
pub shifted : (i : ℕ) → i < 64 → (1 * 2 ^ i) % 2 ^ 64 ≡ 2 ^ i
shifted i h = shl_exact 1 i 64 (lit< tt) (omega arith) ∙ one-mul (2 ^ i)

over : (b p s n : ℕ) → b < 2 → s + b * p ≡ n + p → s ≡ n + (1 - b) * p
over zero p s n h e = omega arith
over (suc zero) p s n h e = omega arith
over (suc (suc b)) p s n h e = absurd (omega arith)

pub or_pow : (n k : ℕ) → bit_or n (2 ^ k) ≡ set_bit n k
unfolding bit_at set_bit
or_pow n k = over (bit_at n k) (2 ^ k) (bit_or n (2 ^ k)) n (bit_at-lt n k) (ap (λ (x : ℕ). bit_or n (2 ^ k) + x) (sym (and_pow n k)) ∙ or_add_and n (2 ^ k))

-- what a bit is worth is within the number
worth : (i n : ℕ) → bit_at n i * 2 ^ i ≤ n
worth zero n = omega (arith, bit_zero n)
worth (suc i) n = rw (bit_suc, pow-suc) (omega (arith, worth i (n / 2)))

-- the bits of n but bit i: the step, with the parts of the mask written out
mask_step : (n m q r x : ℕ) → m / 2 ≡ q → m % 2 ≡ r → bit_and (n / 2) q ≡ x → bit_and n m ≡ x * 2 + min (n % 2) r
mask_step n m q r x e f g = and_step n m ∙ ap₂ (λ (y z : ℕ). bit_and (n / 2) y * 2 + min (n % 2) z) e f ∙ ap (λ (y : ℕ). y * 2 + min (n % 2) r) g

pub and_not : (i k n : ℕ) → i < k → n < 2 ^ k → bit_and n ((2 ^ k - 1) - 2 ^ i) ≡ clear_bit n i
unfolding clear_bit
and_not i zero n l h = absurd (omega arith)
and_not zero (suc k) n l h =
    let p = pow-suc 2 k in let z = pow_pos k in
    mask_step n ((2 ^ suc k - 1) - 2 ^ 0) (2 ^ k - 1) 0 (n / 2) (omega arith) (omega arith) (and_mask (n / 2) k ∙ mod-eq_of_lt (omega arith)) ∙ rw bit_zero (omega arith)
and_not (suc i) (suc k) n l h =
    let p = pow-suc 2 k in let o = pow-suc 2 i in let z = pow_pos i in let lt : 2 ^ i < 2 ^ k = pow-lt (omega arith) in let w = worth i (n / 2) in
    mask_step n ((2 ^ suc k - 1) - 2 ^ suc i) ((2 ^ k - 1) - 2 ^ i) 1 (n / 2 - bit_at (n / 2) i * 2 ^ i) (omega arith) (omega arith) (and_not i k (n / 2) (omega arith) (omega arith))
    ∙ rw (bit_suc, pow-suc, ← mul_assoc) (omega arith)

-- a bit of two numbers' `&`
min_bits : (x y : ℕ) → x < 2 → y < 2 → min x y ≡ x * y
min_bits zero y h g = omega arith
min_bits (suc zero) y h g = omega arith
min_bits (suc (suc x)) y h g = absurd (omega arith)

pub bit_of_and : (a b j : ℕ) → bit_at (bit_and a b) j ≡ bit_at a j * bit_at b j
unfolding bit_at
bit_of_and a b j = bit_at_and a b j ∙ min_bits (std_bit_at a j) (std_bit_at b j) (bit_at-lt a j) (bit_at-lt b j)

-- trailing zeros
pub zeros_below : (k n j : ℕ) → j < count_trailing_zeros k n → bit_at n j ≡ 0
unfolding count_trailing_zeros
zeros_below zero n j h = absurd (omega arith)
zeros_below (suc k) n j h = go (λ i. zeros_below k (n / 2) i) (n % 2) refl j h
  where
    go : ((i : ℕ) → i < count_trailing_zeros k (n / 2) → bit_at (n / 2) i ≡ 0) → (d : ℕ) → n % 2 ≡ d → (j : ℕ) → j < under d (count_trailing_zeros k (n / 2)) → bit_at n j ≡ 0
    go ih zero e zero h = bit_zero n ∙ e
    go ih zero e (suc j) h = bit_suc n j ∙ ih j (omega arith)
    go ih (suc d) e j h = absurd (omega arith)

pub one_at : (k n : ℕ) → count_trailing_zeros k n < k → bit_at n (count_trailing_zeros k n) ≡ 1
unfolding count_trailing_zeros
one_at zero n h = absurd (omega arith)
one_at (suc k) n h = go (one_at k (n / 2)) (n % 2) refl h
  where
    go : (count_trailing_zeros k (n / 2) < k → bit_at (n / 2) (count_trailing_zeros k (n / 2)) ≡ 1) → (d : ℕ) → n % 2 ≡ d → under d (count_trailing_zeros k (n / 2)) < suc k → bit_at n (under d (count_trailing_zeros k (n / 2))) ≡ 1
    go ih zero e h = bit_suc n (count_trailing_zeros k (n / 2)) ∙ ih (omega arith)
    go ih (suc d) e h = bit_zero n ∙ omega arith

-- the least bit that is set
pub lowest_of : (word : ℕ) → Lowest word (count_trailing_zeros 64 word)
lowest_of word =
    record {
      most = trailing_le 64 word;
      before = zeros_below 64 word;
      here = one_at 64 word;
    }

-- what setting and clearing do to each bit: by induction on the bit, the number is halved
set_half : (n i : ℕ) → set_bit n (suc i) / 2 ≡ set_bit (n / 2) i
unfolding set_bit
set_half n i = rw (bit_suc, pow-suc, ← mul_assoc) (omega arith)

set_low : (n i : ℕ) → set_bit n (suc i) % 2 ≡ n % 2
unfolding set_bit
set_low n i = rw (bit_suc, pow-suc, ← mul_assoc) (omega arith)

set_zero_low : (n : ℕ) → set_bit n 0 % 2 ≡ 1
unfolding set_bit
set_zero_low n = rw bit_zero (omega arith)

set_zero_half : (n : ℕ) → set_bit n 0 / 2 ≡ n / 2
unfolding set_bit
set_zero_half n = rw bit_zero (omega arith)

pub set_same : (i n : ℕ) → bit_at (set_bit n i) i ≡ 1
set_same zero n = bit_zero (set_bit n 0) ∙ set_zero_low n
set_same (suc i) n = bit_suc (set_bit n (suc i)) i ∙ ap (λ (x : ℕ). bit_at x i) (set_half n i) ∙ set_same i (n / 2)

pub set_other : (i j n : ℕ) → (j ≡ i → ⊥) → bit_at (set_bit n i) j ≡ bit_at n j
set_other zero zero n f = absurd (f refl)
set_other zero (suc j) n f = bit_suc (set_bit n 0) j ∙ ap (λ (x : ℕ). bit_at x j) (set_zero_half n) ∙ sym (bit_suc n j)
set_other (suc i) zero n f = bit_zero (set_bit n (suc i)) ∙ set_low n i ∙ sym (bit_zero n)
set_other (suc i) (suc j) n f = bit_suc (set_bit n (suc i)) j ∙ ap (λ (x : ℕ). bit_at x j) (set_half n i) ∙ set_other i j (n / 2) (λ e. f (ap suc e)) ∙ sym (bit_suc n j)

clear_half : (n i : ℕ) → clear_bit n (suc i) / 2 ≡ clear_bit (n / 2) i
unfolding clear_bit
clear_half n i = rw (bit_suc, pow-suc, ← mul_assoc) (omega (arith, worth i (n / 2)))

clear_low : (n i : ℕ) → clear_bit n (suc i) % 2 ≡ n % 2
unfolding clear_bit
clear_low n i = rw (bit_suc, pow-suc, ← mul_assoc) (omega (arith, worth i (n / 2)))

clear_zero_low : (n : ℕ) → clear_bit n 0 % 2 ≡ 0
unfolding clear_bit
clear_zero_low n = rw bit_zero (omega arith)

clear_zero_half : (n : ℕ) → clear_bit n 0 / 2 ≡ n / 2
unfolding clear_bit
clear_zero_half n = rw bit_zero (omega arith)

pub clear_same : (i n : ℕ) → bit_at (clear_bit n i) i ≡ 0
clear_same zero n = bit_zero (clear_bit n 0) ∙ clear_zero_low n
clear_same (suc i) n = bit_suc (clear_bit n (suc i)) i ∙ ap (λ (x : ℕ). bit_at x i) (clear_half n i) ∙ clear_same i (n / 2)

pub clear_other : (i j n : ℕ) → (j ≡ i → ⊥) → bit_at (clear_bit n i) j ≡ bit_at n j
clear_other zero zero n f = absurd (f refl)
clear_other zero (suc j) n f = bit_suc (clear_bit n 0) j ∙ ap (λ (x : ℕ). bit_at x j) (clear_zero_half n) ∙ sym (bit_suc n j)
clear_other (suc i) zero n f = bit_zero (clear_bit n (suc i)) ∙ clear_low n i ∙ sym (bit_zero n)
clear_other (suc i) (suc j) n f = bit_suc (clear_bit n (suc i)) j ∙ ap (λ (x : ℕ). bit_at x j) (clear_half n i) ∙ clear_other i j (n / 2) (λ e. f (ap suc e)) ∙ sym (bit_suc n j)

-- a word stays a word
pub set_lt : (i k n : ℕ) → i < k → n < 2 ^ k → set_bit n i < 2 ^ k
set_lt i k n l h = rw (sym (or_pow n i)) (or_lt k n (2 ^ i) h (pow-lt l))

-- a bit cleared makes the word no greater
pub clear_le : (n i : ℕ) → clear_bit n i ≤ n
unfolding clear_bit
clear_le n i = omega arith

-- a bit that was set makes the word less
pub clear_less : (n i : ℕ) → bit_at n i ≡ 1 → clear_bit n i < n
unfolding clear_bit
clear_less n i e = let w = worth i n in let p = pow_pos i in let q : bit_at n i * 2 ^ i ≡ 2 ^ i = rw e (one-mul (2 ^ i)) in omega (arith, w, p, q)

-- 0 has no bit set, and no other number
pub zero_bits : (j : ℕ) → bit_at 0 j ≡ 0
unfolding bit_at
zero_bits j = bit_at-zero j

pub no_bits : (n : ℕ) → ((j : ℕ) → bit_at n j ≡ 0) → n ≡ 0
unfolding bit_at
no_bits n h = same_from_bits n 0 (λ j. h j ∙ sym (bit_at-zero j))
