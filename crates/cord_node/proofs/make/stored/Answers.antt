use Rattle.std.proofs.Common.{arith}
use Rattle.std.proofs.lemmas.Grind.{common_steps}
use Rattle.cord_node.proofs.TreeLemmas.{count_within_len}
use Rattle.cord_node.proofs.make.stored.Goals as goal

pub overflow_add-part_count : goal.overflow_add-part_count
overflow_add-part_count c = grind (arith, common_steps, count_within_len)

pub returns-clause-count : goal.returns-clause-count
returns-clause-count c = grind (arith, common_steps)
