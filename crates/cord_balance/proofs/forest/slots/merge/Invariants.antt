use Rattle.std.proofs.Common.{vec_len}
use Rattle.cord_balance.proofs.States.{IsMerging}
use Rattle.cord_balance.proofs.forest.slots.merge.Given as goal

-- the forest that is left and the joined node are the forest that came and the node
abbrev pub invariant-loop-piece : goal.invariant-loop-piece
invariant-loop-piece l = IsMerging l.fn.forest.items l.forest.items l.fn.node l.joined l.slot

abbrev pub decreases-loop-piece : goal.decreases-loop-piece
decreases-loop-piece l = vec_len l.forest
