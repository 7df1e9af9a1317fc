use Rattle.std.proofs.Common.{◌≡◌, length}
use Rattle.cord.specs.Hashes.{fnv1a, fnv1a_from}
use Rattle.cord.proofs.text.Text.fnv1a.Given as goal

-- the hash after what is left is that of the text
abbrev pub invariant-loop-chunk : goal.invariant-loop-chunk
invariant-loop-chunk l = fnv1a_from l.state l.chunks ≡ fnv1a l.self

abbrev pub decreases-loop-chunk : goal.decreases-loop-chunk
decreases-loop-chunk l = length l.chunks
