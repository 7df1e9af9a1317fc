use Rattle.std.specs.Prelude.{◌≡◌}
use Rattle.cord_plan.proofs.Common.{None, refl, rules, simple_operands, reports, table_view}
use Rattle.cord_plan.proofs.Begun.{next_without}
use Rattle.cord_plan.proofs.planner.expressions.next_expression.Goals as goal

pub returns-in_default : goal.returns-in_default
returns-in_default c =
    let none : simple_operands c.args.statement.now ≡ None = search rules in
    next_without c.args.statements.now (reports c.args.recent.now.later.now) c.args.place c.args.statement.now
    (table_view c.args.operations.now) c.args.taken.now c.args.known.now _ none refl refl c.requires.known

pub expression_over-requires-clause-line : goal.expression_over-requires-clause-line
expression_over-requires-clause-line c = record {
  here = c.requires.here;
  operands = search rules;
  numbers = c.requires.numbers;
  reported = c.requires.reported c.args.place c.args.statement.now c.requires.here;
  recent = c.requires.recent;
}
