use Rattle.cord_script.proofs.Common.{sym}
use Rattle.cord_script.proofs.remaining_words.LineWords.argument.Goals as goal

pub returns-in_ok-number-in-Number : goal.returns-in_ok-number-in-Number
returns-in_ok-number-in-Number c = record { gave = c.in_ok-number-in-Number.ensures; want = sym c.in-Number.is }

pub returns-in_ok-operand-in-Operand-Cord-clause-gave : goal.returns-in_ok-operand-in-Operand-Cord-clause-gave
returns-in_ok-operand-in-Operand-Cord-clause-gave c = c.in_ok-operand-in-Operand-Cord.ensures
