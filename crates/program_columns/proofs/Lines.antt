-- Steps of writing a line of answers. Assumes nothing.
use Rattle.std.proofs.Common.{◌≡◌, ◌∙◌, sym, refl, ap, add-one, ℕ, zero, suc, ◌+◌, ◌/◌, ◌%◌, ◌<◌, ◌≤◌, List, [], ◌∷◌, ◌++◌, length, take, replicate, arith, append_assoc}
use borrow.Author.Tests.{ne_eqb}
use Rattle.std.proofs.Math.Seq.{append_snoc, take-append_seam}
use Rattle.std.proofs.lemmas.List.{replicate_more, take-replicate}
use Rattle.program_columns.specs.Answer.{column_before, columns_before, in_columns}

-- blank columns before others
pub blanks_before : (width : ℕ) (right : List ℕ) → columns_before width 0 right ≡ replicate width 32 ++ right
unfolding columns_before
blanks_before zero right = refl
blanks_before (suc width) right =
    let s : replicate width 32 ++ (32 ∷ []) ≡ replicate (suc width) 32 = rw add-one at (replicate_more {X = ℕ} width 32) in
    blanks_before width (32 ∷ right) ∙ (sym (append_snoc {A = ℕ} (replicate width 32) 32 right) ∙ ap (λ (l : List ℕ). l ++ right) s)

-- those before the last of blank columns
pub blanks_front : (width x : ℕ) (before : List ℕ) → replicate width 32 ≡ before ++ (x ∷ []) → length before + 1 ≡ width → before ≡ replicate (length before) 32
blanks_front width x before e h =
    sym (take-append_seam before (x ∷ [])) ∙ (ap (take (length before)) (sym e) ∙ take-replicate (length before) width 32 (omega arith))

-- columns before others are columns alone, and then the others
pub before_others : (width n : ℕ) (right : List ℕ) → columns_before width n right ≡ columns_before width n [] ++ right
unfolding columns_before
before_others zero n right = refl
before_others (suc width) n right =
    let tail = before_others width (n / 10) (column_before n ∷ []) in
    before_others width (n / 10) (column_before n ∷ right) ∙ rw tail (rw append_assoc)

-- a number's columns: the last has its last digit, and those before it the rest of it, or blanks where nothing is left
rest_columns : (k n : ℕ) → 10 ≤ n → columns_before k (n / 10) [] ≡ in_columns k (n / 10)
unfolding columns_before in_columns
rest_columns zero n t = refl
rest_columns (suc k) n t = rw (ne_eqb (n / 10) 0 (omega arith)) refl

module _ (before : List ℕ) (digit width n : ℕ) (last : digit ≡ 48 + n % 10) (all : length before + 1 ≡ width) where
  pub all_columns : (k : ℕ) → 10 ≤ n → k + 1 ≡ width → before ≡ in_columns k (n / 10) → before ++ (digit ∷ []) ≡ in_columns width n
  unfolding in_columns
  all_columns k t w e =
      let s : width ≡ suc k = omega arith in
      rw (s, e, last, before_others k (n / 10) ((48 + n % 10) ∷ []), rest_columns k n t) refl

  pub last_digit : n < 10 → before ≡ replicate (length before) 32 → before ++ (digit ∷ []) ≡ in_columns width n
  unfolding in_columns
  last_digit t e =
      let s : width ≡ suc (length before) = omega arith in
      let z : n / 10 ≡ 0 = omega arith in
      rw (s, last, z, blanks_before (length before) ((48 + n % 10) ∷ [])) (ap (λ (l : List ℕ). l ++ ((48 + n % 10) ∷ [])) e)

pub no_columns : (l : List ℕ) (width n : ℕ) → length l ≡ 0 → width ≡ 0 → l ≡ in_columns width n
unfolding in_columns
no_columns [] width n e z = rw z refl
no_columns (b ∷ l) width n e z = absurd (omega arith)
