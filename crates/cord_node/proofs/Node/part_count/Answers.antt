use Rattle.std.proofs.Common.{◌∙◌, ap, sym}
use Rattle.cord_node.specs.Tree.{count_of}
use Rattle.cord_node.proofs.TreeLemmas.{count_of-parts}
use Rattle.cord_node.proofs.Node.part_count.Goals as goal

pub returns-in-Cat-clause-stored : goal.returns-in-Cat-clause-stored
returns-in-Cat-clause-stored c = sym (ap count_of c.in-Cat.is)

pub returns-in-Cat-clause-truth : goal.returns-in-Cat-clause-truth
returns-in-Cat-clause-truth c = λ s. returns-in-Cat-clause-stored c ∙ count_of-parts c.args.self.now s
