use Rattle.cord_plan.proofs.Common.{sym, ap, ◌∙◌, Number, number_names, stay}
use Rattle.cord_plan.proofs.Lasts.{stay_nothing}
use Rattle.cord_plan.proofs.planner.unchanged.number_stays.Goals as goal

pub returns-in-Numeral : goal.returns-in-Numeral
returns-in-Numeral c =
    let line = c.args.line.now in
    sym (ap (λ (n : Number). stay line.statements.now c.args.from line.place (number_names n)) c.in-Numeral.is
    ∙ stay_nothing line.statements.now c.args.from line.place)
