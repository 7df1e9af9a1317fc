use Rattle.std.proofs.Common.{arith}
use Rattle.std.proofs.lemmas.Grind.{common_steps}
use Rattle.cord_node.specs.Cords.{node_in}
use Rattle.cord_node.proofs.SpliceLemmas.{short_is}
use Rattle.cord_node.proofs.replace.short_replaced.Goals as goal

pub returns-in_ok-new-in-Some-Some : goal.returns-in_ok-new-in-Some-Some
returns-in_ok-new-in-Some-Some c = short_is c.args.from c.args.until (node_in c.args.middle.now) c.args.node.now.value
    c.in_ok-new-in-Some-Some.new.value c.in-Some-Some.old.now c.in-Some-Some.inner.now _ _ c.requires.order c.requires.inside
    (grind (arith, common_steps)) (grind (arith, common_steps)) (grind (arith, common_steps)) (grind (arith, common_steps))
    c.in_ok-new-in-Some-Some.ensures.sound (grind (arith, common_steps)) c.in_ok-new-in-Some-Some.ensures.len
    (grind (arith, common_steps)) c.in_ok-new-in-Some-Some.ensures.depth c.in_ok-new-in-Some-Some.ensures.part
    (grind (arith, common_steps))
