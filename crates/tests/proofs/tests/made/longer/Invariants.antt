use Rattle.std.specs.Prelude.{◌≤◌}
use Rattle.cord_io.specs.Table.{Lengths, length_at}
use Rattle.cord_core.specs.Cord.{CordFitsIn}
use Rattle.tests.proofs.tests.made.longer.Given as goal

-- it fits where source 2 has 600 bytes
abbrev pub invariant-loop-part : goal.invariant-loop-part
invariant-loop-part g l = (lengths : Lengths) → 600 ≤ length_at lengths 2 → CordFitsIn lengths l.all
