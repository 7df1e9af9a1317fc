use Rattle.cord_plan.proofs.Common.{choice_view, map, operand_names, reports}
use Rattle.cord_plan.proofs.Begun.{next_with}
use Rattle.cord_plan.proofs.ExpressionFacts.{choices_from}
use Rattle.cord_plan.proofs.planner.expressions.taking.Goals as goal

pub returns : goal.returns
returns c = λ table known chosen.
    let line = c.args.line.now in
    let s = line.statements.now in
    let later = reports line.recent.now.later.now in
    let cs = map choice_view c.args.choices.now in
    next_with s later line.place line.statement.now table c.args.taken.now c.note_choices.new.taken (operand_names line.operands) cs
    c.note.new.self _ c.requires.operands chosen c.note_choices.ensures c.in_ok-expression.ensures.made c.is_longer.ensures
    (c.note.ensures s table known (choices_from s later table line.place line.statement.now cs c.requires.here chosen))
