use Rattle.std.proofs.Common.{◌≡◌, ◌++◌, arith}
use Rattle.std.proofs.lemmas.Grind.{common_steps}
use Rattle.cord_node.specs.Cords.{node_in, parts_of}
use Rattle.cord_node.proofs.PartsFromLemmas.{AreFrom_same}
use Rattle.cord_node.proofs.replace.joined.Goals as goal

pub returns-in_default-clause-from_there : goal.returns-in_default-clause-from_there
returns-in_default-clause-from_there c =
    let e : parts_of (node_in c.if-is_some.one) ≡ parts_of (node_in c.args.left.now) ++ parts_of (node_in c.args.right.now) =
    grind (arith, common_steps) in AreFrom_same _ _ e
