use Rattle.std.specs.Prelude.{◌≡◌, ◌∷◌}
use Rattle.cord_plan.proofs.Common.{ℕ, List, [], Some, ap, subst, ◌∙◌, choice_view, IsChoice, operand_names, reports, table_view}
use Rattle.cord_plan.proofs.Choices.{none_chosen, one_chosen, two_chosen}
use Rattle.cord_plan.proofs.planner.expressions.expression_over.Goals as goal

pub returns-in-Nothing : goal.returns-in-Nothing
returns-in-Nothing c =
    let line = c.args.line.now in
    let table = table_view c.args.operations.now in
    c.taking.ensures table c.requires.known (none_chosen line.statements.now (reports line.recent.now.later.now) table line.place
    line.statement.now (c.requires.line.operands ∙ ap Some (ap operand_names c.in-Nothing.is)))

pub returns-in-One : goal.returns-in-One
returns-in-One c =
    let line = c.args.line.now in
    let s = line.statements.now in
    let later = reports line.recent.now.later.now in
    let table = table_view c.args.operations.now in
    let x = c.in-One.operand.now in
    let first = choice_view c.choose-choice.result in
    let listed : operand_names line.operands ≡ x ∷ [] = ap operand_names c.in-One.is in
    c.taking-in-One.ensures table c.requires.known (one_chosen s later table line.place line.statement.now x first
    (c.requires.line.operands ∙ ap Some listed) (subst (λ (xs : List (List ℕ)). IsChoice s later line.place line.statement.now xs x table
    [] first) listed c.choose-choice.ensures))

pub returns-in-Two : goal.returns-in-Two
returns-in-Two c =
    let line = c.args.line.now in
    let s = line.statements.now in
    let later = reports line.recent.now.later.now in
    let table = table_view c.args.operations.now in
    let x = c.in-Two.left.now in
    let y = c.in-Two.right.now in
    let first = choice_view c.choose-first.result in
    let second = choice_view c.choose-second.result in
    let listed : operand_names line.operands ≡ x ∷ y ∷ [] = ap operand_names c.in-Two.is in
    c.taking-in-Two.ensures table c.requires.known (two_chosen s later table line.place line.statement.now x y first second
    (c.requires.line.operands ∙ ap Some listed) (subst (λ (xs : List (List ℕ)). IsChoice s later line.place line.statement.now xs x table
    [] first) listed c.choose-first.ensures) (subst (λ (xs : List (List ℕ)). IsChoice s later line.place line.statement.now xs y table
    (first ∷ []) second) listed c.choose-second.ensures))

pub returns-in_ok-choices-in-Listed : goal.returns-in_ok-choices-in-Listed
returns-in_ok-choices-in-Listed c =
    c.taking-in-Listed.ensures (table_view c.args.operations.now) c.requires.known
    (rw c.deref.ensures.value c.in_ok-choices-in-Listed.ensures)
