use Rattle.std.proofs.Common.{rules}
use Rattle.cord_c.proofs.print.zc_sprintf.Goals as goal

pub returns-in-Ok-print-clause-text : goal.returns-in-Ok-print-clause-text
returns-in-Ok-print-clause-text c = search rules

pub returns-in-Err-TooLong-clause-too_long : goal.returns-in-Err-TooLong-clause-too_long
returns-in-Err-TooLong-clause-too_long c = search rules

pub returns-in-Err-WrongArguments-clause-wrong : goal.returns-in-Err-WrongArguments-clause-wrong
returns-in-Err-WrongArguments-clause-wrong c = search rules

pub returns-in-Err-BadFormat-clause-bad_format : goal.returns-in-Err-BadFormat-clause-bad_format
returns-in-Err-BadFormat-clause-bad_format c = search rules
