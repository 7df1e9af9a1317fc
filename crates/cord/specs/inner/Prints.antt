-- The arguments that a print of texts hands on.
use Rattle.std.specs.Prelude.{◌≡◌, List, [], ◌∷◌, map}
use Rattle.cord_io.specs.Table.{Table, Lengths}
use Rattle.cord_printf.specs.declared.arguments.Arg.{Arg}
use Rattle.cord.specs.declared.print.TextArg.{TextArg}
use Rattle.cord_printf.specs.Over.{ArgumentsFitIn, argument_over}
use Rattle.cord.specs.Prints.{piece_argument, piece_arguments}

-- an argument as `sprintf` takes it: of a text a cord that has it
pub record IsArgumentFor (arg : TextArg) (made : Arg) : Type 0 where
  pub fits : (ls : Lengths) → ArgumentsFitIn ls (made ∷ [])
  pub bytes : (t : Table) → argument_over t made ≡ piece_argument arg

pub record AreArgumentsFor (args : List TextArg) (made : List Arg) : Type 0 where
  pub fits : (ls : Lengths) → ArgumentsFitIn ls made
  pub bytes : (t : Table) → map (argument_over t) made ≡ piece_arguments args
