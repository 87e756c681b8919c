-- A line, its newline left out: a letter, and as many fields as the letter has. Assumes nothing.
use Rattle.std.specs.Prelude.{Bool, ◌&&◌, cond, List, ℕ, ◌+◌, ◌*◌, eqb, length, get_or, take, drop, Option, Some, None}
use Rattle.program_columns.specs.declared.request.Request.{Request}
use Rattle.program_columns.specs.declared.request.Request.TheVariants.{Record, Rollback, Find, List as Listing}
use Rattle.program_columns.specs.Field.{field_of}

-- the letter, and 12 columns for each field
abbrev pub has_form : List ℕ → ℕ → ℕ → Bool
has_form line letter fields =
    eqb (length line) (12 * fields + 1) && eqb (get_or line 0 0) letter

-- the field that starts at this column, the letter's being 0
unfoldable pub field_at : List ℕ → ℕ → Option ℕ
field_at line column = field_of (take 12 (drop column line))

abbrev pub record_of : Option ℕ → Option ℕ → Option Request
record_of (Some page) (Some frame) = Some (Record page frame)
record_of (Some page) None = None
record_of None frame = None

abbrev pub rollback_of : Option ℕ → Option Request
rollback_of (Some frame) = Some (Rollback frame)
rollback_of None = None

abbrev pub find_of : Option ℕ → Option ℕ → Option ℕ → Option Request
find_of (Some page) (Some min) (Some max) = Some (Find page min max)
find_of (Some page) (Some min) None = None
find_of (Some page) None max = None
find_of None min max = None

abbrev pub list_of : Option ℕ → Option ℕ → Option Request
list_of (Some min) (Some max) = Some (Listing min max)
list_of (Some min) None = None
list_of None max = None

-- what a line asks: R page frame, B frame, F page min max, L min max; none: it is of another form
unfoldable pub request_of : List ℕ → Option Request
request_of line =
    cond (has_form line 82 2) (record_of (field_at line 1) (field_at line 13))
    (cond (has_form line 66 1) (rollback_of (field_at line 1))
    (cond (has_form line 70 3) (find_of (field_at line 1) (field_at line 13) (field_at line 25))
    (cond (has_form line 76 2) (list_of (field_at line 1) (field_at line 13)) None)))
