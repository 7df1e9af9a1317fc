use Rattle.std.specs.Prelude.{◌≡◌}
use Rattle.cord_plan.proofs.Common.{drop, later_in}
use Rattle.cord_plan.proofs.flow.liveness.is_read_in.Given as goal

-- the lines that are left tell it
abbrev pub invariant-loop-statement : goal.invariant-loop-statement
invariant-loop-statement l = later_in l.statements l.name ≡ later_in (drop l.statement-index l.statements) l.name
