use Rattle.std.specs.Prelude.{◌≡◌}
use Rattle.cord_plan.proofs.Common.{Option, Some, map, option_map, sym, ap, ◌∙◌, subst, IfOk, operand_names, Expr, expr_view, choice_view}
use Rattle.cord_plan.proofs.Common.{simple_operands}
use Rattle.cord_syntax.specs.declared.readings.Operands.{Operands}
use Rattle.cord_plan.specs.Inlined as plain
use Rattle.cord_plan.proofs.Choices.{defining_named}
use Rattle.cord_plan.proofs.planner.joining.defining_expression.Goals as goal

pub returns-in_ok-choices-in-Some-Listed : goal.returns-in_ok-choices-in-Some-Listed
returns-in_ok-choices-in-Some-Listed c =
    let l = c.args.statement.now in
    let xs = c.in-Some-Listed.names.now in
    let simple : simple_operands l ≡ Some xs =
    sym c.operands_of.ensures ∙ (ap (λ (o : Option Operands). option_map operand_names o) c.in-Some-Listed.is
    ∙ ap (λ (o : Operands). Some (operand_names o)) c.in-Some-Listed.field-0-is) in
    let named : map choice_view c.deref.result.now ≡ map (λ x. plain.named x) xs =
    rw c.deref.ensures.value c.in_ok-choices-in-Some-Listed.ensures in
    record {
      made = subst (λ (o : Option Expr). IfOk c.expression_with-in-Some-Listed.result (λ e. option_map expr_view e ≡ o))
          (defining_named l xs (map choice_view c.deref.result.now) simple named) c.expression_with-in-Some-Listed.ensures.made;
    }
