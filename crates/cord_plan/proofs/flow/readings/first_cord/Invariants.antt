use Rattle.std.specs.Prelude.{◌≡◌}
use Rattle.cord_plan.proofs.Common.{drop, cord_arguments}
use Rattle.cord_plan.proofs.flow.readings.first_cord.Given as goal

-- none stands before the place
abbrev pub invariant-loop-index : goal.invariant-loop-index
invariant-loop-index l = cord_arguments l.arguments ≡ cord_arguments (drop l.index l.arguments)
