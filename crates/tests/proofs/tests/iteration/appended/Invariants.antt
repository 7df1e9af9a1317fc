use Rattle.std.specs.Prelude.{◌≤◌}
use Rattle.cord_io.specs.Table.{Lengths, length_at}
use Rattle.cord_core.specs.Cord.{CordFitsIn}
use Rattle.tests.proofs.tests.iteration.appended.Given as goal

-- the cord has no function part
abbrev pub invariant-loop-k : goal.invariant-loop-k
invariant-loop-k g l = (lengths : Lengths) → 600 ≤ length_at lengths 2 → CordFitsIn lengths l.cord
