use Rattle.std.proofs.Common.{◌≡◌, ◌+◌, ◌-◌, ◌^◌, ◌≤◌, drop, length, min}
use Rattle.cord_node.specs.Tree.{known}
use Rattle.cord_printf.specs.PieceText.{printed, first_refusal}
use Rattle.cord_printf.specs.Printing.{arguments_of, AreWanted}
use Rattle.cord_printf.proofs.print.sprintf_len.Given as goal

-- what is counted, with what is left, is the whole; what is refused is still to come
abbrev pub invariant-loop-piece : goal.invariant-loop-piece
invariant-loop-piece l = record {
  wanted_are : AreWanted (drop l.piece-index l.piece-items) (arguments_of l.rest);
  fewer : length l.rest ≤ length l.args;
  counted : min (l.total + length (printed known (drop l.piece-index l.piece-items) (arguments_of l.rest))) (2 ^ 64 - 1)
      ≡ min (length (printed known l.format (arguments_of l.args))) (2 ^ 64 - 1);
  refused : first_refusal (length l.args - length l.rest) (drop l.piece-index l.piece-items) (arguments_of l.rest)
      ≡ first_refusal 0 l.format (arguments_of l.args);
}
