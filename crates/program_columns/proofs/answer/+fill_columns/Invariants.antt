-- `program_columns::answer::fill_columns` has a smaller number each time. Assumes nothing.
use Rattle.program_columns.proofs.answer.+fill_columns.Given as goal

abbrev pub decreases-fill_columns : goal.decreases-fill_columns
decreases-fill_columns l = l.n
