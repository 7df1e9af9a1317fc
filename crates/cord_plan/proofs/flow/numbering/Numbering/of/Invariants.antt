use Rattle.std.specs.Prelude.{◌≡◌}
use Rattle.cord_plan.proofs.Common.{length, bytes_eq}
use Rattle.std.specs.List.{IsDistinct}
use Rattle.cord_plan.proofs.Numbers.{LinesTo}
use Rattle.cord_plan.proofs.flow.numbering.Numbering.of.Given as goal

-- the names and the numbers of the lines so far
abbrev pub invariant-loop-statement : goal.invariant-loop-statement
invariant-loop-statement l = record {
  distinct : IsDistinct bytes_eq l.names.items;
  size : length l.lines.items ≡ l.statement-index;
  reported : LinesTo l.statements l.statement-index l.names.items l.read.items l.lines.items;
}
