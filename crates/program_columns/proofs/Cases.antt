-- Fields and lines, worked out: those of document 01's sample, and the corners of a field. Assumes nothing.
use mathlib.Core.Path.{◌≡◌, refl}
use mathlib.Core.List.{List, [], ◌∷◌, ◌++◌}
use Prim.Native.Nat.{ℕ}
use lib.ListN.{replicate}
use Rattle.std.specs.Prelude.{Some, None}
use Rattle.program_columns.specs.declared.request.Request.TheVariants.{Record, Rollback, Find, List as Listing}
use Rattle.program_columns.specs.Field.{digits_after, plain_number, after_blanks, field_of}
use Rattle.program_columns.specs.Request.{field_at, request_of}
use Rattle.program_columns.specs.Answer.{columns_before, in_columns, answer_columns, answer_line, pair_line}

-- so many blanks before the text
abbrev pub blanks_before : ℕ → List ℕ → List ℕ
blanks_before k text = replicate k 32 ++ text

-- the digits of 8,199
abbrev pub digits_8199 : List ℕ
digits_8199 = 56 ∷ (49 ∷ (57 ∷ (57 ∷ [])))

pub reads_zero : field_of (blanks_before 11 (48 ∷ [])) ≡ Some 0
unfolding field_of after_blanks plain_number
reads_zero = refl

pub reads_eleven_digits : field_of (blanks_before 1 (replicate 11 57)) ≡ Some 99999999999
unfolding field_of after_blanks plain_number digits_after
reads_eleven_digits = refl

pub reads_twelve_digits : field_of (replicate 12 57) ≡ Some 999999999999
unfolding field_of after_blanks plain_number digits_after
reads_twelve_digits = refl

pub no_thirteen_digits : field_of (replicate 13 57) ≡ None
unfolding field_of
no_thirteen_digits = refl

pub no_leading_zero : field_of (blanks_before 10 (48 ∷ (55 ∷ []))) ≡ None
unfolding field_of after_blanks plain_number
no_leading_zero = refl

pub no_column_off : field_of (blanks_before 10 (55 ∷ (32 ∷ []))) ≡ None
unfolding field_of after_blanks plain_number digits_after
no_column_off = refl

pub no_blank_field : field_of (replicate 12 32) ≡ None
unfolding field_of after_blanks
no_blank_field = refl

pub reads_record : request_of ((82 ∷ blanks_before 8 digits_8199) ++ blanks_before 11 (50 ∷ [])) ≡ Some (Record 8199 2)
unfolding request_of field_at field_of after_blanks plain_number digits_after
reads_record = refl

pub reads_full_field : request_of ((82 ∷ replicate 12 57) ++ blanks_before 11 (50 ∷ [])) ≡ Some (Record 999999999999 2)
unfolding request_of field_at field_of after_blanks plain_number digits_after
reads_full_field = refl

pub reads_rollback : request_of (66 ∷ blanks_before 11 (50 ∷ [])) ≡ Some (Rollback 2)
unfolding request_of field_at field_of after_blanks plain_number digits_after
reads_rollback = refl

pub reads_find : request_of ((70 ∷ blanks_before 11 (55 ∷ [])) ++ (blanks_before 11 (49 ∷ []) ++ blanks_before 11 (50 ∷ []))) ≡ Some (Find 7 1 2)
unfolding request_of field_at field_of after_blanks plain_number digits_after
reads_find = refl

pub reads_list : request_of ((76 ∷ blanks_before 11 (49 ∷ [])) ++ blanks_before 11 (57 ∷ [])) ≡ Some (Listing 1 9)
unfolding request_of field_at field_of after_blanks plain_number digits_after
reads_list = refl

-- a line with its newline in it, an empty line and one that is a column short
pub no_newline : request_of ((66 ∷ blanks_before 11 (50 ∷ [])) ++ (10 ∷ [])) ≡ None
unfolding request_of
no_newline = refl

pub no_empty_line : request_of [] ≡ None
unfolding request_of
no_empty_line = refl

pub no_short_line : request_of (66 ∷ blanks_before 10 (50 ∷ [])) ≡ None
unfolding request_of
no_short_line = refl

pub writes_zero : in_columns 12 0 ≡ blanks_before 11 (48 ∷ [])
unfolding in_columns columns_before
writes_zero = refl

pub writes_stored : answer_line 82 0 (Some 1) ≡ (82 ∷ blanks_before 2 (48 ∷ [])) ++ (blanks_before 11 (49 ∷ []) ++ (10 ∷ []))
unfolding answer_line answer_columns in_columns columns_before
writes_stored = refl

pub writes_refused : answer_line 82 15 None ≡ (82 ∷ blanks_before 1 (49 ∷ (53 ∷ []))) ++ (replicate 12 32 ++ (10 ∷ []))
unfolding answer_line answer_columns in_columns columns_before
writes_refused = refl

pub writes_pair : pair_line 8199 2 ≡ (45 ∷ blanks_before 8 digits_8199) ++ (blanks_before 11 (50 ∷ []) ++ (10 ∷ []))
unfolding pair_line in_columns columns_before
writes_pair = refl
