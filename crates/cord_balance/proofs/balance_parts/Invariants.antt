use Rattle.std.proofs.Common.{drop}
use Rattle.std.specs.List.{All}
use Rattle.cord_balance.specs.inner.Forest.{IsKnown}
use Rattle.cord_balance.proofs.States.{IsFilling}
use Rattle.cord_balance.proofs.balance_parts.Given as goal

-- the ropes so far are in the forest, and each pair is a subtree with its form
abbrev pub invariant-loop-rope : goal.invariant-loop-rope
invariant-loop-rope l = record {
  filling : IsFilling l.ropes (drop l.rope-index l.ropes) l.forest.items;
  known : All IsKnown l.known.items;
}
