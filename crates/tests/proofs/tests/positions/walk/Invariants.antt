use Rattle.std.specs.Prelude.{◌≤◌}
use Rattle.cord_io.specs.Table.{Lengths, length_at}
use Rattle.cord_core.specs.Cord.{CordFitsIn}
use Rattle.tests.proofs.tests.positions.walk.Given as goal

-- it is in the same cord
abbrev pub invariant-loop-step : goal.invariant-loop-step
invariant-loop-step g l = (lengths : Lengths) → 600 ≤ length_at lengths 2 → CordFitsIn lengths l.position.cord
