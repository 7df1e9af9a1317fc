use Rattle.std.specs.Prelude.{◌&&◌}
use Rattle.cord_plan.proofs.Common.{Bool, sym, ap, ◌∙◌, number_names, stay}
use Rattle.cord_plan.proofs.Lasts.{stay_append}
use Rattle.cord_plan.proofs.planner.unchanged.numbers_stay.Goals as goal

pub returns-then-number_stays : goal.returns-then-number_stays
returns-then-number_stays c =
    let line = c.args.line.now in
    let last = stay line.statements.now c.args.from line.place (number_names c.args.second.now) in
    c.number_stays-then-number_stays.ensures ∙ sym (stay_append _ _ _ (number_names c.args.first.now) (number_names c.args.second.now)
    ∙ ap (λ (v : Bool). v && last) (sym c.number_stays.ensures ∙ c.if-number_stays.true))

pub returns-else-number_stays : goal.returns-else-number_stays
returns-else-number_stays c =
    let line = c.args.line.now in
    let last = stay line.statements.now c.args.from line.place (number_names c.args.second.now) in
    c.if-number_stays.false ∙ sym (stay_append _ _ _ (number_names c.args.first.now) (number_names c.args.second.now)
    ∙ ap (λ (v : Bool). v && last) (sym c.number_stays.ensures ∙ c.if-number_stays.false))
