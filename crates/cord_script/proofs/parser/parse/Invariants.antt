use Rattle.std.specs.Prelude.{◌≤◌, ◌+◌}
use Rattle.cord_script.proofs.Common.{length, All, MAX_LINES, line_of, scope_of}
use Rattle.cord_script.proofs.Readings.{HasReadLines}
use Rattle.cord_script.proofs.parser.parse.Given as goal

abbrev pub invariant-lines : goal.invariant-lines
invariant-lines l = record {
  few : l.number ≤ MAX_LINES + 1;
  read : HasReadLines l.script l.rest l.number (scope_of l.context) l.statements.items;
  numbered : All (λ statement. 1 ≤ line_of statement) l.statements.items;
}

abbrev pub decreases-lines : goal.decreases-lines
decreases-lines l = length l.rest
