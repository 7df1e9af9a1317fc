use Rattle.std.proofs.Common.{take}
use Rattle.cord.specs.inner.Prints.{AreArgumentsFor}
use Rattle.cord.proofs.print.cords_of.Given as goal

-- what was made is for the arguments so far
abbrev pub invariant-loop-arg : goal.invariant-loop-arg
invariant-loop-arg l = AreArgumentsFor (take l.arg-index l.args) l.made.items
