use Rattle.cord_plan.proofs.Common.{sym, ◌∙◌, operand_names, reports, expr_view}
use Rattle.cord_plan.proofs.Nearest.{needed_stands, spare_stands}
use Rattle.cord_plan.proofs.planner.operand_choices.stands.Goals as goal

pub returns-then-is_spare : goal.returns-then-is_spare
returns-then-is_spare c =
    let line = c.args.line.now in
    c.stays.ensures
    ∙ sym (spare_stands line.statements.now (reports line.recent.now.later.now) (expr_view c.args.expression.now) c.args.source line.place
    line.statement.now (operand_names line.operands) c.args.operand.now (sym c.is_spare.ensures ∙ c.if-is_spare.true))

pub returns-else-is_spare : goal.returns-else-is_spare
returns-else-is_spare c =
    let line = c.args.line.now in
    c.if-is_spare.false
    ∙ sym (needed_stands line.statements.now (reports line.recent.now.later.now) (expr_view c.args.expression.now) c.args.source line.place
    line.statement.now (operand_names line.operands) c.args.operand.now (sym c.is_spare.ensures ∙ c.if-is_spare.false))
