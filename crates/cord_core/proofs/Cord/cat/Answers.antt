use Rattle.std.proofs.Common.{arith, ◌≡◌, ◌++◌, rules}
use Rattle.std.specs.Prelude.{Some}
use Rattle.std.proofs.lemmas.Grind.{common_steps}
use Rattle.cord_node.proofs.PartsFromLemmas.{PartsFrom_same}
use Rattle.cord_core.specs.Cord.{parts_of}
use Rattle.cord_core.proofs.OverLemmas.{cat_over}
use Rattle.cord_core.proofs.Cord.cat.Goals as goal

pub returns-in_default-clause-parts_from : goal.returns-in_default-clause-parts_from
returns-in_default-clause-parts_from c = let e : parts_of c.if-is_some.cord ≡ parts_of c.args.left.now ++ parts_of c.args.right.now =
    grind (arith, common_steps) in PartsFrom_same _ _ e

pub returns-clause-over : goal.returns-clause-over
returns-clause-over c = cat_over c.args.left.now c.args.right.now (Some c.in_ok-node.node.value) c.in_ok-node.ensures.sound
    (grind (arith, common_steps))

pub returns-clause-depth : goal.returns-clause-depth
returns-clause-depth c = search rules

pub returns-clause-sides : goal.returns-clause-sides
returns-clause-sides c = search rules

pub returns-clause-parts_from : goal.returns-clause-parts_from
returns-clause-parts_from c = search rules
