use Rattle.cord_lines.proofs.Common.{IsCounted, ◌-◌}
use Rattle.cord_lines.proofs.reading.count_parts.Given as goal

abbrev pub invariant-loop-counts : goal.invariant-loop-counts
invariant-loop-counts l = IsCounted l.text l.from 0 l.most l.counts l.ahead

abbrev pub decreases-loop-counts : goal.decreases-loop-counts
decreases-loop-counts l = l.most - l.counts.bytes
