use Rattle.std.proofs.Common.{◌≡◌, ◌≤◌, take}
use Rattle.std.specs.Prelude.{◌==◌}
use Rattle.std.specs.List.{count_by}
use Rattle.cord.proofs.count.count_few.Given as goal

-- what was looked at is counted
abbrev pub invariant-loop-own : goal.invariant-loop-own
invariant-loop-own l = record {
  count : l.count ≡ count_by (λ own. own == l.byte) (take l.own-index l.bytes);
  few : l.count ≤ l.own-index;
}
