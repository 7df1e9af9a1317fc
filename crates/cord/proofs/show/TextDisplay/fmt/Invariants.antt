use Rattle.std.proofs.Common.{◌≡◌, ◌+◌, length}
use Rattle.cord.proofs.show.TextDisplay.fmt.Given as goal

-- what is left begins at the place
abbrev pub invariant-loop-chunk : goal.invariant-loop-chunk
invariant-loop-chunk g l = l.place + length l.chunks ≡ length l.self

abbrev pub decreases-loop-chunk : goal.decreases-loop-chunk
decreases-loop-chunk g l = length l.chunks
