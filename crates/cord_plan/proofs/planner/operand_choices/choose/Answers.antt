use Rattle.std.specs.Prelude.{◌≡◌, ◌+◌, ◌&&◌, ◌∷◌, ◌++◌}
use Rattle.cord_plan.proofs.Common.{Bool, true, false, map, drop, length, sym, ap, ◌∙◌, name, expr_of, expr_with, is_small, reports}
use Rattle.cord_plan.proofs.Common.{table_view, expr_view, choice_view, operand_names, slice_get_within}
use Rattle.cord_plan.specs.inner.Choices.{stands}
use Rattle.cord_plan.proofs.Numbers.{operand_number}
use Rattle.cord_plan.proofs.Nearest.{bare_choice, far_choice, tested_choice}
use Rattle.cord_plan.proofs.planner.operand_choices.choose.Goals as goal
use Rattle.cord_plan.proofs.planner.operand_choices.choose.Goals.{else-stands-via-then-stands+else-stays_small, else-stands-via-else-stands}

pub stands-requires-clause-facts : goal.stands-requires-clause-facts
stands-requires-clause-facts c = c.at-facts.ensures c.args.line.now.statements.now c.args.line.now.place (table_view c.args.operations.now)
    (expr_view c.in-Some-expression_at.expression.now) c.requires.known.facts (sym c.in-Some-expression_at.ensures)

pub stays_small-requires-clause-facts : goal.stays_small-requires-clause-facts
stays_small-requires-clause-facts c = c.at-facts.ensures c.args.line.now.statements.now c.args.line.now.place (table_view c.args.operations.now)
    (expr_view c.in-Some-expression_at.expression.now) c.requires.known.facts (sym c.in-Some-expression_at.ensures)

pub returns-in-None : goal.returns-in-None
returns-in-None c =
    let line = c.args.line.now in
    let xs = operand_names line.operands in
    let number = c.number_at-number.ensures ∙ operand_number line.recent.now.later.now.numbering line.statement.now line.numbers xs
    (length c.args.chosen.now) c.args.operand.now c.requires.line.numbers c.requires.line.operands c.requires.operand in
    far_choice line.statements.now (reports line.recent.now.later.now) line.place line.statement.now xs c.args.operand.now
    (table_view c.args.operations.now) (map choice_view c.args.chosen.now) (sym (c.in-None.ensures c.args.operand.now number))

pub returns-in-None-expression_at : goal.returns-in-None-expression_at
returns-in-None-expression_at c =
    let line = c.args.line.now in
    let xs = operand_names line.operands in
    let number = c.number_at-number.ensures ∙ operand_number line.recent.now.later.now.numbering line.statement.now line.numbers xs
    (length c.args.chosen.now) c.args.operand.now c.requires.line.numbers c.requires.line.operands c.requires.operand in
    bare_choice line.statements.now (reports line.recent.now.later.now) line.place line.statement.now xs c.args.operand.now
    (table_view c.args.operations.now) (map choice_view c.args.chosen.now) c.in-Some.source
    (sym (c.in-Some.ensures c.args.operand.now number)) (sym c.in-None-expression_at.ensures)

pub returns-then-stays_small : goal.returns-then-stays_small
returns-then-stays_small c =
    let line = c.args.line.now in
    let xs = operand_names line.operands in
    let r = expr_view c.in-Some-expression_at.expression.now in
    let number = c.number_at-number.ensures ∙ operand_number line.recent.now.later.now.numbering line.statement.now line.numbers xs
    (length c.args.chosen.now) c.args.operand.now c.requires.line.numbers c.requires.line.operands c.requires.operand in
    let small = is_small (expr_with line.statement.now (map (λ d. expr_of d) (map choice_view c.args.chosen.now)
    ++ r ∷ map (λ y. name y) (drop (length (map choice_view c.args.chosen.now) + 1) xs))) in
    tested_choice line.statements.now (reports line.recent.now.later.now) line.place line.statement.now xs c.args.operand.now
    (table_view c.args.operations.now) (map choice_view c.args.chosen.now) c.requires.line.operands c.in-Some.source r
    (sym (c.in-Some.ensures c.args.operand.now number)) (sym c.in-Some-expression_at.ensures) true
    (ap (λ (v : Bool). v && small) (sym c.stands.ensures ∙ c.if-stands.true) ∙ (sym c.stays_small.ensures ∙ c.if-stays_small.true))

pub returns-else-stands : goal.returns-else-stands
returns-else-stands c =
    let line = c.args.line.now in
    let xs = operand_names line.operands in
    let r = expr_view c.in-Some-expression_at.expression.now in
    let number = c.number_at-number.ensures ∙ operand_number line.recent.now.later.now.numbering line.statement.now line.numbers xs
    (length c.args.chosen.now) c.args.operand.now c.requires.line.numbers c.requires.line.operands c.requires.operand in
    let small = is_small (expr_with line.statement.now (map (λ d. expr_of d) (map choice_view c.args.chosen.now)
    ++ r ∷ map (λ y. name y) (drop (length (map choice_view c.args.chosen.now) + 1) xs))) in
    let refused : (stands line.statements.now (reports line.recent.now.later.now) r c.in-Some.source line.place line.statement.now xs
    c.args.operand.now && small) ≡ false = elim c.else-stands.branch [
      | else-stands-via-then-stands+else-stays_small w ↦ ap (λ (v : Bool). v && small) (sym c.stands.ensures ∙ w.if-stands.true)
          ∙ (sym w.stays_small.ensures ∙ w.if-stays_small.false)
      | else-stands-via-else-stands w ↦ ap (λ (v : Bool). v && small) (sym c.stands.ensures ∙ w.if-stands.false)
    ] in
    tested_choice line.statements.now (reports line.recent.now.later.now) line.place line.statement.now xs c.args.operand.now
    (table_view c.args.operations.now) (map choice_view c.args.chosen.now) c.requires.line.operands c.in-Some.source r
    (sym (c.in-Some.ensures c.args.operand.now number)) (sym c.in-Some-expression_at.ensures) false refused

pub is_operand_later-later-requires-clause-number : goal.is_operand_later-later-requires-clause-number
is_operand_later-later-requires-clause-number c =
    let line = c.args.line.now in
    c.number_at-number.ensures
    ∙ operand_number line.recent.now.later.now.numbering line.statement.now line.numbers (operand_names line.operands)
    (length c.args.chosen.now) c.args.operand.now c.requires.line.numbers c.requires.line.operands c.requires.operand

pub stays_small-requires-clause-more : goal.stays_small-requires-clause-more
stays_small-requires-clause-more c =
    slice_get_within (operand_names c.args.line.now.operands) (length c.args.chosen.now) c.args.operand.now c.requires.operand
