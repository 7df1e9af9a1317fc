use Rattle.std.proofs.Common.{◌∙◌, sym, arith}
use Rattle.std.proofs.lemmas.Grind.{common_steps}
use Rattle.cord_node.proofs.TreeLemmas.{true_len-len_of, length-cells}
use Rattle.cord_node.proofs.Node.len.Goals as goal

pub returns-clause-stored : goal.returns-clause-stored
returns-clause-stored c = grind (arith, common_steps)

pub returns-clause-truth : goal.returns-clause-truth
returns-clause-truth c = λ s. returns-clause-stored c ∙ true_len-len_of c.args.self.now s

pub returns-clause-text : goal.returns-clause-text
returns-clause-text c = λ s. returns-clause-stored c ∙ sym (length-cells c.args.self.now s)
