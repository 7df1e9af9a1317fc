use Rattle.cord_lines.proofs.Common.{length}
use Rattle.cord_lines.proofs.Readings.{LeadsTo}
use Rattle.cord_lines.proofs.reading.end_in_bytes.Given as goal

abbrev pub invariant-loop-rest : goal.invariant-loop-rest
invariant-loop-rest l = LeadsTo l.bytes l.n l.rest l.left

abbrev pub decreases-loop-rest : goal.decreases-loop-rest
decreases-loop-rest l = length l.rest
