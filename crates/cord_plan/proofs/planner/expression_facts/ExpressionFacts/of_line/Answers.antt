use Rattle.std.specs.Prelude.{◌∷◌, ◌++◌, ◌+◌}
use Rattle.cord_plan.proofs.Common.{[], List, map, pos, ap, IfSome_then, Numeral, Statement, Expr, cat, members, run, expr_of, expr_with}
use Rattle.cord_plan.proofs.Common.{choice_view}
use Rattle.cord_plan.proofs.planner.expression_facts.ExpressionFacts.of_line.Goals as goal

pub returns-in-Cat : goal.returns-in-Cat
returns-in-Cat c = λ s table known from.
    let es : List Expr = map expr_of (map choice_view c.args.choices.now) in
    IfSome_then c.of_members.result (c.of_members.ensures s table known from) (λ f facts. record {
      expression = cat (members es);
      is = ap (λ (l : Statement). expr_with l es) c.in-Cat.is;
      facts = facts;
    })

pub returns-in-Catn : goal.returns-in-Catn
returns-in-Catn c = λ s table known from.
    let es : List Expr = map expr_of (map choice_view c.args.choices.now) in
    IfSome_then c.of_members-in-Catn.result (c.of_members-in-Catn.ensures s table known from) (λ f facts. record {
      expression = cat (members es);
      is = ap (λ (l : Statement). expr_with l es) c.in-Catn.is;
      facts = facts;
    })

pub returns-in-Some-Some : goal.returns-in-Some-Some
returns-in-Some-Some c = λ s table known from.
    let arm = c.in-Some-Some in
    let b = c.args.line.now.place + 1 in
    let es : List Expr = map expr_of (map choice_view c.args.choices.now) in
    let last : Expr = run c.in-Catc.byte (Numeral (pos 1)) in
    IfSome_then c.with.result (c.with.ensures s b es last (arm.ensures s table known from) (arm.ensures' s b)) (λ f facts. record {
      expression = cat (members (es ++ last ∷ []));
      is = ap (λ (l : Statement). expr_with l es) c.in-Catc.is;
      facts = facts;
    })
