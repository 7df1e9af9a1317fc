use Rattle.std.proofs.Common.{◌∙◌, ap, sym}
use Rattle.cord_node.specs.Tree.{depth_of}
use Rattle.cord_node.proofs.TreeLemmas.{true_depth-depth_of}
use Rattle.cord_node.proofs.Node.depth.Goals as goal

pub returns-in-Cat-clause-stored : goal.returns-in-Cat-clause-stored
returns-in-Cat-clause-stored c = sym (ap depth_of c.in-Cat.is)

pub returns-in-Cat-clause-truth : goal.returns-in-Cat-clause-truth
returns-in-Cat-clause-truth c = λ s. returns-in-Cat-clause-stored c ∙ true_depth-depth_of c.args.self.now s
