-- The lines of answers, as lists of bytes. Assumes nothing.
use Rattle.std.specs.Prelude.{cond, List, [], ◌∷◌, ◌++◌, ℕ, zero, suc, ◌+◌, ◌/◌, ◌%◌, eqb, replicate, Option, Some, None}

-- a column before others: a digit of what is left of the number, or a blank where nothing is left
abbrev pub column_before : ℕ → ℕ
column_before n = cond (eqb n 0) 32 (48 + n % 10)

-- so many columns before these: the digits of n, to its first, and blanks before it
unfoldable pub columns_before : ℕ → ℕ → List ℕ → List ℕ
columns_before zero n right = right
columns_before (suc width) n right = columns_before width (n / 10) (column_before n ∷ right)

-- a number in so many columns, right-justified: its last digit is there for 0 too
unfoldable pub in_columns : ℕ → ℕ → List ℕ
in_columns zero n = []
in_columns (suc width) n = columns_before width (n / 10) ((48 + n % 10) ∷ [])

-- an answer in 12 columns: blank where nothing was found, or the call was refused
unfoldable pub answer_columns : Option ℕ → List ℕ
answer_columns (Some n) = in_columns 12 n
answer_columns None = replicate 12 32

-- the letter, the refusal's number and the answer
unfoldable pub answer_line : ℕ → ℕ → Option ℕ → List ℕ
answer_line letter refusal answer = ((letter ∷ in_columns 3 refusal) ++ answer_columns answer) ++ (10 ∷ [])

-- a pair of a list: 45 is the dash
unfoldable pub pair_line : ℕ → ℕ → List ℕ
pair_line page frame = ((45 ∷ in_columns 12 page) ++ in_columns 12 frame) ++ (10 ∷ [])

-- 63 is the question mark
abbrev pub other_form_line : List ℕ
other_form_line = 63 ∷ (10 ∷ [])
