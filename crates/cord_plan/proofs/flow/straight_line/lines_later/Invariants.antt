use Rattle.std.specs.Prelude.{◌≡◌}
use Rattle.cord_plan.proofs.Common.{drop, length, AreNextReads, AreReportedFrom}
use Rattle.cord_plan.proofs.flow.straight_line.lines_later.Given as goal

-- the lines from a place on are reported
abbrev pub invariant-loop-place : goal.invariant-loop-place
invariant-loop-place l = record {
  size : length l.lines.items ≡ length l.statements;
  next_reads : AreNextReads (drop l.place l.statements) l.numbering l.next_reads.items;
  reported : AreReportedFrom l.statements l.place l.lines.items;
}
