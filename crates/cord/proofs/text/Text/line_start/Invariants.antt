use Rattle.std.proofs.Common.{length}
use Rattle.cord.proofs.PassingLines.{IsBefore}
use Rattle.cord.proofs.text.Text.line_start.Given as goal

abbrev pub invariant-loop-chunk : goal.invariant-loop-chunk
invariant-loop-chunk l = IsBefore l.self l.n l.chunks l.left l.start

abbrev pub decreases-loop-chunk : goal.decreases-loop-chunk
decreases-loop-chunk l = length l.chunks
