use Rattle.cord_search.proofs.Lemmas.{same_bytes}
use Rattle.std.proofs.lemmas.Simd.{length-chunk}
use Rattle.cord_search.proofs.slices.are_same.Goals as goal

pub returns : goal.returns
returns c = same_bytes _ _ (length-chunk c.args.place 64 c.args.left.now c.requires.left)
    (length-chunk c.args.place 64 c.args.right.now c.requires.right)
