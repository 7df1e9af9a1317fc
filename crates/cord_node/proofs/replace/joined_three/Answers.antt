use Rattle.cord_node.specs.Cords.{node_in, parts_of}
use Rattle.cord_node.proofs.SpliceLemmas.{three_left, three_right}
use Rattle.cord_node.proofs.replace.joined_three.Goals as goal

pub returns-in_ok-all-clause-from_there : goal.returns-in_ok-all-clause-from_there
returns-in_ok-all-clause-from_there c = three_right (parts_of (node_in c.args.prefix.now)) (parts_of (node_in c.args.middle.now))
    (parts_of (node_in c.args.back.now)) (parts_of (node_in c.in_ok-back.back)) (parts_of (node_in c.in_ok-all.all))
    c.in_ok-back.ensures.from_there c.in_ok-all.ensures.from_there

pub returns-in_ok-all-2-clause-from_there : goal.returns-in_ok-all-2-clause-from_there
returns-in_ok-all-2-clause-from_there c = three_left (parts_of (node_in c.args.prefix.now)) (parts_of (node_in c.args.middle.now))
    (parts_of (node_in c.args.back.now)) (parts_of (node_in c.in_ok-prefix.prefix)) (parts_of (node_in c.in_ok-all-2.all))
    c.in_ok-prefix.ensures.from_there c.in_ok-all-2.ensures.from_there
