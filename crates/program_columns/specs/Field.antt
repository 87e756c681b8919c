-- A field of a line: 12 columns with a number in decimal, right-justified, without leading zeros. Assumes nothing.
-- A line is a list of bytes: 32 is a blank, 48 to 57 are the digits.
use Rattle.std.specs.Prelude.{Bool, ◌&&◌, cond, List, [], ◌∷◌, ℕ, ◌+◌, ◌-◌, ◌*◌, eqb, leb, length, Option, Some, None}

abbrev pub is_digit : ℕ → Bool
is_digit b = leb 48 b && leb b 57

-- the number that n becomes with these digits after its own
unfoldable pub digits_after : ℕ → List ℕ → Option ℕ
digits_after n [] = Some n
digits_after n (b ∷ bs) = cond (is_digit b) (digits_after (10 * n + (b - 48)) bs) None

-- 0, if nothing stands after it
abbrev pub zero_before : List ℕ → Option ℕ
zero_before [] = Some 0
zero_before (b ∷ bs) = None

-- a number without leading zeros
unfoldable pub plain_number : List ℕ → Option ℕ
plain_number [] = None
plain_number (b ∷ bs) = cond (eqb b 48) (zero_before bs) (digits_after 0 (b ∷ bs))

-- such a number after any blanks
unfoldable pub after_blanks : List ℕ → Option ℕ
after_blanks [] = None
after_blanks (b ∷ bs) = cond (eqb b 32) (after_blanks bs) (plain_number (b ∷ bs))

-- A field has 12 columns: a number of 12 digits fills them.
unfoldable pub field_of : List ℕ → Option ℕ
field_of bs = cond (eqb (length bs) 12) (after_blanks bs) None
