use Rattle.std.proofs.Common.{◌≡◌, take}
use Rattle.cord.specs.Prints as of_texts
use Rattle.cord_c.specs.Prints.{piece_arguments}
use Rattle.cord_c.proofs.print.arguments.Given as goal

-- the arguments so far are made
abbrev pub invariant-loop-place : goal.invariant-loop-place
invariant-loop-place l = of_texts.piece_arguments l.made.items ≡ take l.place (piece_arguments l.args)
