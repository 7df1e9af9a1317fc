use Rattle.cord_plan.proofs.plans.Plan.of.Goals as goal

pub invariant_of-result : goal.invariant_of-result
invariant_of-result c = record { kept = c.requires.kept; extending = c.requires.extending; distinct = c.requires.distinct }
