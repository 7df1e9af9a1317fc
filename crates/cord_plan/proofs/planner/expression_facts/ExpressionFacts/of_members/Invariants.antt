use Rattle.std.specs.Prelude.{◌+◌}
use Rattle.cord_plan.proofs.Common.{List, Option, All, map, take, cat, members, Expr, Statement, expr_of, choice_view, AreFactsOf, IsChoiceOf, IsFacts}
use Rattle.cord_plan.proofs.planner.expression_facts.ExpressionFacts.of_members.Given as goal

-- what is known of the members so far
abbrev pub invariant-loop-index : goal.invariant-loop-index
invariant-loop-index l = (s : List Statement) (table : List (Option Expr)) → AreFactsOf s l.line.place table l.self →
    All (IsChoiceOf s l.line.place table) (map choice_view l.choices) →
    IsFacts s (l.line.place + 1) (cat (members (map expr_of (map choice_view (take l.index l.choices))))) l.facts
