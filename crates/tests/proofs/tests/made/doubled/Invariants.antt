use Rattle.std.specs.Prelude.{◌≤◌}
use Rattle.cord_io.specs.Table.{Lengths, length_at}
use Rattle.cord_core.specs.Cord.{CordFitsIn}
use Rattle.tests.proofs.tests.made.doubled.Given as goal

-- it fits where source 2 has 600 bytes
abbrev pub invariant-loop-turn : goal.invariant-loop-turn
invariant-loop-turn g l = (lengths : Lengths) → 600 ≤ length_at lengths 2 → CordFitsIn lengths l.all
