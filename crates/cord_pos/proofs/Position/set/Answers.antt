use Rattle.cord_pos.proofs.Common.{arith, rules}
use Rattle.cord_pos.proofs.Lemmas.{set_bound, set_limit}
use Rattle.cord_pos.proofs.Position.set.Goals as goal

pub invariant_of-result-2 : goal.invariant_of-result-2
invariant_of-result-2 c =
    let visits = rw c.new-tree.ensures.cord at c.enter-part.ensures.visits in
    record {
      on_spot = c.enter-part.ensures.on_cord;
      counted = omega (arith, visits, set_limit c.args.cord.now c.args.index c.new-tree.ensures.sound);
    }

pub returns-clause-bound : goal.returns-clause-bound
returns-clause-bound c =
    let visits = rw c.new-tree.ensures.cord at c.enter-part.ensures.visits in
    omega (arith, visits, set_bound c.args.cord.now c.args.index c.new-tree.ensures.sound)

pub returns-clause-limit : goal.returns-clause-limit
returns-clause-limit c =
    let visits = rw c.new-tree.ensures.cord at c.enter-part.ensures.visits in
    omega (arith, visits, set_limit c.args.cord.now c.args.index c.new-tree.ensures.sound)

pub returns-clause-index : goal.returns-clause-index
returns-clause-index c = search rules
