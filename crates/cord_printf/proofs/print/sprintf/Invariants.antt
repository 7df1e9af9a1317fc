use Rattle.std.proofs.Common.{◌≡◌, ◌++◌, ◌-◌, ◌≤◌, drop, length}
use Rattle.cord_node.specs.Tree.{known}
use Rattle.cord_printf.specs.PieceText.{printed, first_refusal}
use Rattle.cord_printf.specs.Printing.{arguments_of, AreWanted}
use Rattle.cord_printf.specs.Own.{all_own, arguments_parts}
use Rattle.cord_printf.proofs.Owned.{IsPrinting}
use Rattle.cord_printf.proofs.print.sprintf.Given as goal

-- what is written, with what is left, is the whole, and made of the cords that are given; what is refused is still to come
abbrev pub invariant-loop-piece : goal.invariant-loop-piece
invariant-loop-piece l = record {
  wanted_are : AreWanted (drop l.piece-index l.piece-items) (arguments_of l.rest);
  fewer : length l.rest ≤ length l.args;
  written : l.output.text ++ printed known (drop l.piece-index l.piece-items) (arguments_of l.rest)
      ≡ printed known l.format (arguments_of l.args);
  printing : IsPrinting (arguments_parts l.args) (all_own l.format (arguments_of l.args)) l.output.parts (arguments_parts l.rest)
      (all_own (drop l.piece-index l.piece-items) (arguments_of l.rest));
  refused : first_refusal (length l.args - length l.rest) (drop l.piece-index l.piece-items) (arguments_of l.rest)
      ≡ first_refusal 0 l.format (arguments_of l.args);
}
