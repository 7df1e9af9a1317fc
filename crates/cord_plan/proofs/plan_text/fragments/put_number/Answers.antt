use Rattle.std.proofs.Common.{rules, w64, SFits, ap, sym, ◌∙◌}
use Rattle.cord_plan.specs.PlanText.{number}
use Rattle.cord_plan.proofs.Decimals.{signed_decimal_is}
use Rattle.cord_plan.proofs.Writing.{writes_same}
use Rattle.cord_plan.proofs.plan_text.fragments.put_number.Goals as goal

pub returns-in-Numeral : goal.returns-in-Numeral
returns-in-Numeral g c =
    let fits : SFits w64 c.in-Numeral.numeral = search rules in
    writes_same (c.as_bytes.ensures.value ∙ c.format.ensures.text ∙ signed_decimal_is c.in-Numeral.numeral fits ∙ ap number (sym c.in-Numeral.is))
    c.put_all.ensures
