use Rattle.cord_plan.proofs.Common.{◌∙◌}
use Rattle.cord_plan.proofs.Decimals.{decimal_is}
use Rattle.cord_plan.proofs.Writing.{writes_same}
use Rattle.cord_plan.proofs.plan_text.fragments.put_count.Goals as goal

pub returns : goal.returns
returns g c = writes_same (c.as_bytes.ensures.value ∙ c.format.ensures.text ∙ decimal_is c.args.count c.ranges.count.fits)
    c.put_all.ensures
