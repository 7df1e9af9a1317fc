use Rattle.std.specs.Prelude.{◌≡◌}
use Rattle.cord_plan.proofs.Common.{length, read_names, has, reads}
use Rattle.cord_plan.proofs.flow.readings.reads.Given as goal

-- those that are left tell it
abbrev pub invariant-names : goal.invariant-names
invariant-names l = reads l.statement l.name ≡ has (read_names l.left) l.name

abbrev pub decreases-names : goal.decreases-names
decreases-names l = length (read_names l.left)
