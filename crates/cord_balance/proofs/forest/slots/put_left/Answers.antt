use Rattle.std.proofs.Common.{arith, ◌≡◌, ◌+◌, ◌≤◌}
use Rattle.cord_node.specs.Tree.{depth_of, count_of}
use Rattle.cord_node.proofs.TreeLemmas.{count_limit}
use Rattle.cord_balance.specs.Fib.{fib_of}
use Rattle.cord_balance.proofs.ForestLemmas.{join_fits, join_shallow, joined_shallow}
use Rattle.cord_balance.proofs.forest.slots.put_left.Goals as goal

pub join-requires-clause-shallow : goal.join-requires-clause-shallow
join-requires-clause-shallow c =
    join_fits (depth_of c.args.left.value) (depth_of c.in-Some.right.value) (count_of c.args.left.value) c.requires.shallow
    (c.requires.right_shallow c.in-Some.right c.in-Some.is) (count_limit c.args.left.value c.requires.left_sound)

pub returns-clause-shallow : goal.returns-clause-shallow
returns-clause-shallow c =
    let d : depth_of c.in_ok-joined.joined.value + 0 ≡ depth_of c.in_ok-joined.joined.value = omega arith in
    let k : fib_of (depth_of c.in_ok-joined.joined.value) ≤ count_of c.args.left.value =
    join_shallow (depth_of c.in_ok-joined.joined.value) (depth_of c.args.left.value) (depth_of c.in-Some.right.value)
    (count_of c.args.left.value) c.requires.shallow (c.requires.right_shallow c.in-Some.right c.in-Some.is)
    c.in_ok-joined.ensures.depth_bound in
    rw d at (joined_shallow c.args.left.value c.in-Some.right.value c.in_ok-joined.joined.value 0 (omega arith)
    c.in_ok-joined.ensures.depth c.in_ok-joined.ensures.count (rw d (omega arith)))
