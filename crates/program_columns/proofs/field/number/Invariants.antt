-- `program_columns::field::number` reads what the definition says: the digits that are left decide the rest. A number of
-- at most 12 digits fits. Assumes nothing.
use Rattle.std.proofs.Common.{◌≡◌, ◌<◌, ◌^◌, drop}
use Rattle.program_columns.specs.Field.{digits_after}
use Rattle.program_columns.proofs.field.number.Given as goal

abbrev pub invariant-loop-b : goal.invariant-loop-b
invariant-loop-b l =
    (l.n < 10 ^ l.b-index) × (digits_after l.n (drop l.b-index l.digits) ≡ digits_after 0 l.digits)
