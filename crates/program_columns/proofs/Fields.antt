-- Steps of reading a field: a digit more, a number without leading zeros, and the blanks before it. Assumes nothing.
use Rattle.std.proofs.Common.{◌≡◌, ◌∙◌, sym, refl, ap, ℕ, suc, ◌+◌, ◌-◌, ◌*◌, ◌^◌, ◌<◌, ◌≤◌, Bool, true, false, cond, not, eqb, List, [], ◌∷◌, length, get_or, take, drop, ltb, Option, Some, None, add-one, arith, drop-cons, length-drop}
use native.Mathlib.Nat.{pow-suc, pow-le-pow_right}
use borrow.Author.Tests.{eq-eqb, ne_eqb, ltb-false}
use Rattle.std.specs.List.{position, position_or_len}
use Rattle.std.proofs.lemmas.List.{drop_all, take_all}
use Rattle.program_columns.specs.Field.{is_digit, digits_after, zero_before, plain_number, after_blanks}

-- how large a number with a digit more is, and one of at most 11 digits
pub digit_more : (n d i : ℕ) → n < 10 ^ i → d ≤ 9 → 10 * n + d < 10 ^ (i + 1)
digit_more n d i b t = rw (add-one, pow-suc) (omega arith)

pub eleven_digits : (n i : ℕ) → i ≤ 11 → n < 10 ^ i → n < 100000000000
eleven_digits n i t b =
    let p : 10 ^ i ≤ 10 ^ 11 = pow-le-pow_right (omega arith) t in
    omega arith

-- what a byte says as a digit
abbrev pub digit_of : ℕ → Option ℕ
digit_of b = cond (is_digit b) (Some (b - 48)) None

module _ (l : List ℕ) (i n : ℕ) (w : Option ℕ) (rest : digits_after n (drop i l) ≡ w) where
  pub digit_taken : (d : ℕ) → i < length l → Some d ≡ digit_of (get_or l i 0) → digits_after (10 * n + d) (drop (i + 1) l) ≡ w
  unfolding digits_after
  digit_taken d h e = rw add-one (go (is_digit (get_or l i 0)) e (rw (drop-cons l i 0 h) at rest))
    where
      go : (x : Bool) → Some d ≡ cond x (Some (get_or l i 0 - 48)) None → cond x (digits_after (10 * n + (get_or l i 0 - 48)) (drop (suc i) l)) None ≡ w → digits_after (10 * n + d) (drop (suc i) l) ≡ w
      go true e r = cc
      go false e r = cc

  pub no_digit : i < length l → None ≡ digit_of (get_or l i 0) → None ≡ w
  unfolding digits_after
  no_digit h e = go (is_digit (get_or l i 0)) e (rw (drop-cons l i 0 h) at rest)
    where
      go : (x : Bool) → None ≡ cond x (Some (get_or l i 0 - 48)) None → cond x (digits_after (10 * n + (get_or l i 0 - 48)) (drop (suc i) l)) None ≡ w → None ≡ w
      go true e r = cc
      go false e r = r

  pub digits_done : length l ≤ i → Some n ≡ w
  unfolding digits_after
  digits_done h = rw (drop_all i l h) at rest

-- behind the blanks stands what the field says
pub behind_blanks : (l : List ℕ) → plain_number (drop (position_or_len (λ b. not (eqb b 32)) l) l) ≡ after_blanks l
unfolding plain_number after_blanks
behind_blanks [] = refl
behind_blanks (b ∷ l) = go (eqb b 32) (behind_blanks l)
  where
    go : (x : Bool) → plain_number (drop (position_or_len (λ b. not (eqb b 32)) l) l) ≡ after_blanks l → plain_number (drop (cond (not (not x)) (1 + position_or_len (λ b. not (eqb b 32)) l) 0) (b ∷ l)) ≡ cond x (after_blanks l) (plain_number (b ∷ l))
    go true e = let s : 1 + position_or_len (λ b. not (eqb b 32)) l ≡ suc (position_or_len (λ b. not (eqb b 32)) l) = omega arith in rw s e
    go false e = refl

-- a number without leading zeros: no digit, a zero before others, and any other digits
pub none_there : (l : List ℕ) (r : Option ℕ) → length l ≡ 0 → r ≡ None → r ≡ plain_number l
unfolding plain_number
none_there [] r e f = f
none_there (b ∷ l) r e f = absurd (omega arith)

module _ (l : List ℕ) (b : ℕ) (bs : List ℕ) (is : l ≡ b ∷ bs) where
  pub leading_zero : b ≡ 48 → 0 < length bs → None ≡ plain_number l
  unfolding plain_number
  leading_zero z h = rw (is, eq-eqb _ 48 z) (go bs h)
    where
      go : (k : List ℕ) → 0 < length k → None ≡ zero_before k
      go [] h = absurd (omega arith)
      go (d ∷ k) h = refl

  pub zero_alone : b ≡ 48 → length bs ≡ 0 → digits_after 0 l ≡ plain_number l
  unfolding plain_number digits_after
  zero_alone z h = rw (is, z) (go bs h)
    where
      go : (k : List ℕ) → length k ≡ 0 → digits_after 0 k ≡ zero_before k
      go [] h = refl
      go (d ∷ k) h = absurd (omega arith)

  pub not_zero : (b ≡ 48 → ⊥) → digits_after 0 l ≡ plain_number l
  unfolding plain_number
  not_zero h = rw (is, ne_eqb _ 48 h)

-- all blanks, and what stands behind the first column that is not blank
pub only_blanks : (l : List ℕ) → None ≡ position (λ b. not (eqb b 32)) l → None ≡ after_blanks l
unfolding plain_number
only_blanks l e = go (ltb (position_or_len (λ b. not (eqb b 32)) l) (length l)) refl e
  where
    go : (x : Bool) → x ≡ ltb (position_or_len (λ b. not (eqb b 32)) l) (length l) → None ≡ cond x (Some (position_or_len (λ b. not (eqb b 32)) l)) None → None ≡ after_blanks l
    go true f e = absurd (cc)
    go false f e =
        let n : length l ≤ position_or_len (λ b. not (eqb b 32)) l = ltb-false _ _ (sym f) in
        let d : drop (position_or_len (λ b. not (eqb b 32)) l) l ≡ [] = drop_all _ l n in
        ap plain_number (sym d) ∙ behind_blanks l

pub behind_first : (l : List ℕ) (i : ℕ) → Some i ≡ position (λ b. not (eqb b 32)) l → plain_number (take (length l - i) (drop i l)) ≡ after_blanks l
behind_first l i e = go (ltb (position_or_len (λ b. not (eqb b 32)) l) (length l)) e
  where
    go : (x : Bool) → Some i ≡ cond x (Some (position_or_len (λ b. not (eqb b 32)) l)) None → plain_number (take (length l - i) (drop i l)) ≡ after_blanks l
    go true f =
        let p : i ≡ position_or_len (λ b. not (eqb b 32)) l = cc in
        let t : take (length l - i) (drop i l) ≡ drop i l = take_all _ (drop i l) (simp length-drop (omega arith)) in
        rw (t, p) (behind_blanks l)
    go false f = absurd (cc)
