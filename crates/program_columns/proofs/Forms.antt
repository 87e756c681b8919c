-- A letter and its fields ask what the line asks. Assumes nothing.
use Rattle.std.proofs.Common.{◌≡◌, ◌∙◌, refl, ℕ, suc, zero, ◌*◌, ◌/◌, ◌%◌, ◌<◌, List, ◌∷◌, length, Option, None, arith}
use lib.Seq.{drop-drop}
use borrow.Author.Tests.{ne_eqb}
use Rattle.std.specs.Simd.{first_chunks}
use Rattle.program_columns.specs.declared.request.Request.{Request}
use Rattle.program_columns.specs.Request.{field_at, request_of}
use Rattle.program_columns.specs.InnerForm.{request_by}

pub many_fields : (letter : ℕ) (fields : List (List ℕ)) → 3 < length fields → request_by letter fields ≡ None
unfolding request_by
many_fields letter fields h = rw (ne_eqb (length fields) 2 (omega arith), ne_eqb (length fields) 1 (omega arith), ne_eqb (length fields) 3 (omega arith)) refl

-- a line that is as long as no form
pub no_length : (line : List ℕ) (r : Option Request) → (length line ≡ 25 → ⊥) → (length line ≡ 13 → ⊥) → (length line ≡ 37 → ⊥) → r ≡ None → r ≡ request_of line
unfolding request_of
no_length line r a b c e = rw (ne_eqb (length line) 25 a, ne_eqb (length line) 13 b, ne_eqb (length line) 37 c) e

pub empty_line : (line : List ℕ) (r : Option Request) → length line ≡ 0 → r ≡ None → r ≡ request_of line
empty_line line r z e = no_length line r (omega arith) (omega arith) (omega arith) e

-- a line is a letter and fields of 12 columns each; with columns behind the last of them it is of no form
module _ (line : List ℕ) (letter : ℕ) (columns : List ℕ) (is : line ≡ letter ∷ columns) where
  pub columns_left : 0 < length columns % 12 → None ≡ request_of line
  columns_left h = rw is (no_length (letter ∷ columns) None (omega arith) (omega arith) (omega arith) refl)

  pub asked_by_line : length columns % 12 ≡ 0 → request_by letter (first_chunks 12 (length columns / 12) columns) ≡ request_of line
  unfolding request_by request_of field_at
  asked_by_line h = rw is (go (length columns / 12) (omega arith))
    where
      go : (n : ℕ) → length columns ≡ 12 * n → request_by letter (first_chunks 12 n columns) ≡ request_of (letter ∷ columns)
      go zero e = rw e refl
      go (suc zero) e = rw e refl
      go (suc (suc zero)) e = rw e refl
      go (suc (suc (suc zero))) e = rw (e, drop-drop 12 12 columns) refl
      go (suc (suc (suc (suc n)))) e = many_fields letter (first_chunks 12 (suc (suc (suc (suc n)))) columns) (omega arith) ∙ no_length (letter ∷ columns) None (omega arith) (omega arith) (omega arith) refl
