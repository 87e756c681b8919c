-- `program_columns::request::request_by`: a rollback's letter and a lookup's bounds, written out so that wrong ones are refused at an equation. Assumes nothing.
use Rattle.std.specs.Prelude.{◌≡◌, Some, [], length, get_or}
use Rattle.std.proofs.Common.{rules, arith}
use Rattle.program_columns.specs.Field.{field_of}
use Rattle.program_columns.specs.InnerForm.{request_by}
use Rattle.program_columns.proofs.request.request_by.Goals as goal

pub returns-in_ok-read_field-in-66-len1 : goal.returns-in_ok-read_field-in-66-len1
unfolding request_by
returns-in_ok-read_field-in-66-len1 c =
    let f = c.args.fields.now in
    let one : length f ≡ 1 = omega arith in
    let frame : field_of (get_or f 0 []) ≡ Some c.in_ok-read_field-in-66-len1.field-0 = search rules in
    rw (c.in-66-len1.is-0, one, frame)

pub returns-in_ok-read_field-in-70-len3-3 : goal.returns-in_ok-read_field-in-70-len3-3
unfolding request_by
returns-in_ok-read_field-in-70-len3-3 c =
    let f = c.args.fields.now in
    let three : length f ≡ 3 = omega arith in
    let page : field_of (get_or f 0 []) ≡ Some c.in_ok-read_field-in-70-len3.field-0 = search rules in
    let min : field_of (get_or f 1 []) ≡ Some c.in_ok-read_field-in-70-len3-2.field-0 = search rules in
    let max : field_of (get_or f 2 []) ≡ Some c.in_ok-read_field-in-70-len3-3.field-0 = search rules in
    rw (c.in-70-len3.is-0, three, page, min, max)
