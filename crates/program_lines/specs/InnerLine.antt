-- The number of a field, which is a list of bytes: 48 to 57 are the digits. Assumes nothing.
use Rattle.std.specs.Prelude.{Bool, ◌&&◌, cond, List, [], ◌∷◌, ℕ, ◌+◌, ◌-◌, ◌*◌, ◌^◌, leb, ltb, length, Option, Some, None}

abbrev pub is_digit : ℕ → Bool
is_digit b = leb 48 b && leb b 57

-- the number that n becomes with these digits after its own, if 64 bits have it (each digit more makes it no smaller)
unfoldable pub digits_after : ℕ → List ℕ → Option ℕ
digits_after n [] = Some n
digits_after n (b ∷ bs) = cond (is_digit b) (cond (ltb (10 * n + (b - 48)) (2 ^ 64)) (digits_after (10 * n + (b - 48)) bs) None) None

-- 1 to 20 digits
unfoldable pub number_of : List ℕ → Option ℕ
number_of field = cond (leb 1 (length field) && leb (length field) 20) (digits_after 0 field) None
