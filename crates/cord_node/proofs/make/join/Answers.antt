use Rattle.std.proofs.Common.{◌≡◌, ◌++◌, arith, rules}
use Rattle.std.proofs.lemmas.Grind.{common_steps}
use Rattle.cord_node.specs.Tree.{cells}
use Rattle.cord_node.proofs.PartsFromLemmas.{PartsFrom_same}
use Rattle.cord_node.proofs.TableLemmas.{join_over}
use Rattle.cord_node.proofs.make.join.Goals as goal

pub returns-in_ok-node-in-Some-Some-clause-over : goal.returns-in_ok-node-in-Some-Some-clause-over
returns-in_ok-node-in-Some-Some-clause-over c =
    let e : cells c.in_ok-node-in-Some-Some.node.value ≡ cells c.args.left.now.value ++ cells c.args.right.now.value =
    grind (arith, common_steps) in
    join_over c.args.left.now.value c.args.right.now.value c.in_ok-node-in-Some-Some.node.value c.in_ok-node-in-Some-Some.ensures.sound e

pub returns-in_ok-node-in_default-clause-over : goal.returns-in_ok-node-in_default-clause-over
returns-in_ok-node-in_default-clause-over c = join_over c.args.left.now.value c.args.right.now.value c.in_ok-node-in_default.node.value
    c.in_ok-node-in_default.ensures.sound c.in_ok-node-in_default.ensures.text

pub returns-in_ok-node-in_default-clause-parts_from : goal.returns-in_ok-node-in_default-clause-parts_from
returns-in_ok-node-in_default-clause-parts_from c = PartsFrom_same _ _ c.in_ok-node-in_default.ensures.parts

pub returns-in_ok-node-in-Some-Some-clause-form : goal.returns-in_ok-node-in-Some-Some-clause-form
returns-in_ok-node-in-Some-Some-clause-form c = grind (arith, common_steps)

pub returns-in_ok-node-in-Some-Some-clause-depth : goal.returns-in_ok-node-in-Some-Some-clause-depth
returns-in_ok-node-in-Some-Some-clause-depth c = grind (arith, common_steps)

pub returns-in_ok-node-in_default-clause-sides : goal.returns-in_ok-node-in_default-clause-sides
returns-in_ok-node-in_default-clause-sides c = λ _. search rules
