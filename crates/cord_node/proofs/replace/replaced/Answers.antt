use Rattle.std.proofs.Common.{ap, arith}
use Rattle.std.proofs.lemmas.Grind.{common_steps}
use Rattle.cord_node.specs.Cords.{node_in}
use Rattle.cord_node.proofs.SpliceLemmas.{replaced_is}
use Rattle.cord_node.proofs.replace.replaced.Goals as goal

pub returns : goal.returns
returns c = replaced_is c.args.from c.args.until c.len.result (node_in c.args.middle.now) c.args.node.now.value
    (node_in c.in_ok-prefix.prefix)
    (node_in c.in_ok-back.back) (node_in c.in_ok-all.all) c.in-Some-all.new.value c.requires.sound c.requires.inside
    (grind (arith, common_steps))
    (ap node_in c.in-Some-all.is) c.in_ok-all.ensures.sound c.in_ok-prefix.ensures.text c.in_ok-back.ensures.text c.in_ok-all.ensures.text
    c.in_ok-prefix.ensures.len c.in_ok-back.ensures.len c.in_ok-all.ensures.len c.in_ok-prefix.ensures.depth c.in_ok-back.ensures.depth
    c.in_ok-all.ensures.depth c.in_ok-prefix.ensures.from_there c.in_ok-back.ensures.from_there c.in_ok-all.ensures.from_there
    c.in_ok-prefix.ensures.few c.in_ok-back.ensures.few c.in_ok-all.ensures.few c.requires.order
