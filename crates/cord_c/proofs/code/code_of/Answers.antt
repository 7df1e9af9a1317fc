use Rattle.std.proofs.Common.{rules}
use Rattle.cord_c.proofs.code.code_of.Goals as goal

pub returns-in-TooLong-clause-cause : goal.returns-in-TooLong-clause-cause
returns-in-TooLong-clause-cause c = search rules
