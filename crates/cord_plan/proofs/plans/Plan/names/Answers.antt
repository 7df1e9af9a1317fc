use Rattle.cord_plan.proofs.plans.Plan.names.Goals as goal

pub returns : goal.returns
returns c = record { distinct = rw c.deref.ensures.value c.self.invariant.distinct }
