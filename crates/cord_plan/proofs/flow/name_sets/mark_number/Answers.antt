use Rattle.cord_plan.proofs.MarkedNames.{marks_apart, marks_number}
use Rattle.cord_plan.proofs.flow.name_sets.mark_number.Goals as goal

pub returns-then-number-group : goal.returns-then-number-group
returns-then-number-group c = λ t y is. marks_number t c.args.group y c.args.number is c.if-number-group.true

pub returns-else-number-group : goal.returns-else-number-group
returns-else-number-group c = λ t y is. marks_apart t c.args.group y c.args.number is c.if-number-group.false
