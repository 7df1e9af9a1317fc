use Rattle.cord_printf.proofs.Unique.{bad_no_format, bad-offset-unique}
use Rattle.cord_printf.proofs.laws.refused_formats_are_none.Goals as goal

pub returns-clause-none : goal.returns-clause-none
returns-clause-none c = bad_no_format

pub returns-clause-one : goal.returns-clause-one
returns-clause-one c = bad-offset-unique
