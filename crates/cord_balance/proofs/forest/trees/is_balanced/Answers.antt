use Rattle.std.proofs.Common.{arith}
use Rattle.std.proofs.lemmas.Grind.{common_steps}
use Rattle.cord_node.proofs.TreeLemmas.{count_limit}
use Rattle.cord_balance.proofs.FibLemmas.{fibs, fib_index}
use Rattle.cord_balance.proofs.forest.trees.is_balanced.Goals as goal

pub returns-then-index-le-MAX_INDEX : goal.returns-then-index-le-MAX_INDEX
returns-then-index-le-MAX_INDEX c = grind (arith, common_steps, fibs)

pub returns-else-index-le-MAX_INDEX : goal.returns-else-index-le-MAX_INDEX
returns-else-index-le-MAX_INDEX c = grind (arith, common_steps, fib_index, count_limit)
