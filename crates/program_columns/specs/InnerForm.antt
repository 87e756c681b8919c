-- A letter and its fields, each of 12 columns: what they ask. A word for the contract of an inner function. Assumes nothing.
use Rattle.std.specs.Prelude.{Bool, ◌&&◌, cond, List, [], ℕ, eqb, length, get_or, Option, None}
use Rattle.program_columns.specs.declared.request.Request.{Request}
use Rattle.program_columns.specs.Field.{field_of}
use Rattle.program_columns.specs.Request.{record_of, rollback_of, find_of, list_of}

module _ (letter : ℕ) (fields : List (List ℕ)) where
  abbrev pub field_in : ℕ → Option ℕ
  field_in i = field_of (get_or fields i [])

  abbrev pub asks : ℕ → ℕ → Bool
  asks l n = eqb (length fields) n && eqb letter l

  unfoldable pub request_by : Option Request
  request_by =
      cond (asks 82 2) (record_of (field_in 0) (field_in 1))
      (cond (asks 66 1) (rollback_of (field_in 0))
      (cond (asks 70 3) (find_of (field_in 0) (field_in 1) (field_in 2))
      (cond (asks 76 2) (list_of (field_in 0) (field_in 1)) None)))
