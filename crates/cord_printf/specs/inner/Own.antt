-- The parts of an argument, where there is one.
use Rattle.std.specs.Prelude.{Option, Some, None, List, []}
use Rattle.cord_node.specs.PartsFrom.{Part}
use Rattle.cord_printf.specs.declared.arguments.Arg.{Arg}
use Rattle.cord_printf.specs.Own.{argument_parts}

-- the parts of an argument, where there is one
abbrev pub parts_if : Option Arg → List Part
parts_if None = []
parts_if (Some a) = argument_parts a
