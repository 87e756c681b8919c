-- Steps of reading a number: a digit more, a byte that is none, and a number that 64 bits do not have. Assumes nothing.
use Rattle.std.proofs.Common.{◌≡◌, ℕ, suc, ◌+◌, ◌-◌, ◌*◌, ◌^◌, ◌<◌, ◌≤◌, Bool, true, false, cond, ltb, List, length, get_or, drop, Option, Some, None, add-one, drop-cons}
use borrow.Author.Tests.{lt-ltb, le-ltb}
use Rattle.std.proofs.lemmas.List.{drop_all}
use Rattle.program_lines.specs.InnerLine.{is_digit, digits_after}

-- what a byte says as a digit
abbrev pub digit_of : ℕ → Option ℕ
digit_of b = cond (is_digit b) (Some (b - 48)) None

module _ (l : List ℕ) (i n : ℕ) (w : Option ℕ) (rest : digits_after n (drop i l) ≡ w) where
  pub digit_taken : (d : ℕ) → i < length l → Some d ≡ digit_of (get_or l i 0) → 10 * n + d < 2 ^ 64 → digits_after (10 * n + d) (drop (i + 1) l) ≡ w
  unfolding digits_after
  digit_taken d h e t = rw add-one (go (is_digit (get_or l i 0)) e (rw (drop-cons l i 0 h) at rest))
    where
      go : (x : Bool) → Some d ≡ cond x (Some (get_or l i 0 - 48)) None → cond x (cond (ltb (10 * n + (get_or l i 0 - 48)) (2 ^ 64)) (digits_after (10 * n + (get_or l i 0 - 48)) (drop (suc i) l)) None) None ≡ w → digits_after (10 * n + d) (drop (suc i) l) ≡ w
      go true e r =
          let s : d ≡ get_or l i 0 - 48 = cc in
          let f : ltb (10 * n + (get_or l i 0 - 48)) (2 ^ 64) ≡ true = lt-ltb _ _ (rw s at t) in
          rw s (rw f at r)
      go false e r = cc

  pub no_digit : i < length l → None ≡ digit_of (get_or l i 0) → None ≡ w
  unfolding digits_after
  no_digit h e = go (is_digit (get_or l i 0)) e (rw (drop-cons l i 0 h) at rest)
    where
      go : (x : Bool) → None ≡ cond x (Some (get_or l i 0 - 48)) None → cond x (cond (ltb (10 * n + (get_or l i 0 - 48)) (2 ^ 64)) (digits_after (10 * n + (get_or l i 0 - 48)) (drop (suc i) l)) None) None ≡ w → None ≡ w
      go true e r = cc
      go false e r = r

  pub too_large : (d : ℕ) → i < length l → Some d ≡ digit_of (get_or l i 0) → 2 ^ 64 ≤ 10 * n + d → None ≡ w
  unfolding digits_after
  too_large d h e t = go (is_digit (get_or l i 0)) e (rw (drop-cons l i 0 h) at rest)
    where
      go : (x : Bool) → Some d ≡ cond x (Some (get_or l i 0 - 48)) None → cond x (cond (ltb (10 * n + (get_or l i 0 - 48)) (2 ^ 64)) (digits_after (10 * n + (get_or l i 0 - 48)) (drop (suc i) l)) None) None ≡ w → None ≡ w
      go true e r =
          let s : d ≡ get_or l i 0 - 48 = cc in
          let f : ltb (10 * n + (get_or l i 0 - 48)) (2 ^ 64) ≡ false = le-ltb _ _ (rw s at t) in
          rw f at r
      go false e r = cc

  pub digits_done : length l ≤ i → Some n ≡ w
  unfolding digits_after
  digits_done h = rw (drop_all i l h) at rest
