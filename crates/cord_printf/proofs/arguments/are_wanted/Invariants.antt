use Rattle.std.proofs.Common.{drop}
use Rattle.cord_printf.specs.Printing.{arguments_of, AreWanted}
use Rattle.cord_printf.proofs.arguments.are_wanted.Given as goal

-- what is left answers for the whole
abbrev pub invariant-loop-piece : goal.invariant-loop-piece
invariant-loop-piece l = record {
  there : AreWanted l.pieces (arguments_of l.args) → AreWanted (drop l.piece-index l.pieces) (arguments_of l.rest);
  back : AreWanted (drop l.piece-index l.pieces) (arguments_of l.rest) → AreWanted l.pieces (arguments_of l.args);
}
