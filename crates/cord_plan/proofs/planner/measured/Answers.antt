use Rattle.cord_plan.proofs.planner.measured.Goals as goal

-- a must-fail edit breaks it
pub returns-in-Joined : goal.returns-in-Joined
returns-in-Joined c = rw (c.in-Build.is, c.in-Joined.is)
