use Rattle.std.proofs.Common.{vec_len}
use Rattle.cord_balance.proofs.States.{IsGathering}
use Rattle.cord_balance.proofs.forest.slots.gather.Given as goal

-- the forest that is left and what was joined are the forest that came
abbrev pub invariant-loop-piece : goal.invariant-loop-piece
invariant-loop-piece l = IsGathering l.fn.forest.items l.forest.items l.joined l.below

abbrev pub decreases-loop-piece : goal.decreases-loop-piece
decreases-loop-piece l = vec_len l.forest
