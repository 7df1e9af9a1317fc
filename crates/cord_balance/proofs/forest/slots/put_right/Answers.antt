use Rattle.std.proofs.Common.{◌+◌, ◌≤◌, arith}
use Rattle.cord_io.specs.declared.TheConstants.{MAX_LEN}
use Rattle.cord_node.specs.Tree.{len_of, depth_of, count_of}
use Rattle.cord_node.proofs.TreeLemmas.{count_within_len}
use Rattle.cord_balance.proofs.ForestLemmas.{joined_shallow}
use Rattle.cord_balance.proofs.Inserting.{right_depth, right_joined, balanced_alone}
use Rattle.cord_node.proofs.PartsFromLemmas.{PartsFrom-self}
use Rattle.cord_balance.proofs.forest.slots.put_right.Goals as goal

pub join-requires-clause-shallow : goal.join-requires-clause-shallow
join-requires-clause-shallow c =
    let all : len_of c.in-Some.left.value + len_of c.args.right.value ≤ MAX_LEN = rw c.in-Some.is at c.requires.within_limit in
    let some : count_of c.in-Some.left.value ≤ len_of c.in-Some.left.value =
    count_within_len c.in-Some.left.value (c.requires.left_sound c.in-Some.left c.in-Some.is) in
    let more : count_of c.args.right.value ≤ len_of c.args.right.value = count_within_len c.args.right.value c.requires.sound in
    right_depth (depth_of c.in-Some.left.value) (depth_of c.args.right.value) (count_of c.in-Some.left.value)
    (count_of c.args.right.value) (c.requires.left_shallow c.in-Some.left c.in-Some.is)
    (c.requires.left_fits c.in-Some.left c.in-Some.is) c.requires.balanced (omega arith)

pub returns-clause-shallow : goal.returns-clause-shallow
returns-clause-shallow c = joined_shallow c.in-Some.left.value c.args.right.value c.in_ok-node.node.value 1 (omega arith)
    c.in_ok-node.ensures.depth c.in_ok-node.ensures.count (right_joined (depth_of c.in_ok-node.node.value) (depth_of c.in-Some.left.value)
    (depth_of c.args.right.value) (count_of c.in-Some.left.value) (count_of c.args.right.value)
    (c.requires.left_shallow c.in-Some.left c.in-Some.is) (c.requires.left_fits c.in-Some.left c.in-Some.is) c.requires.balanced
    c.in_ok-node.ensures.depth_bound)

pub returns-in_default-clause-parts_from : goal.returns-in_default-clause-parts_from
returns-in_default-clause-parts_from c = rw c.in_default.is (PartsFrom-self _)

pub returns-in_default-clause-shallow : goal.returns-in_default-clause-shallow
returns-in_default-clause-shallow c = balanced_alone (depth_of c.args.right.value) (count_of c.args.right.value) c.requires.balanced
