use Rattle.std.proofs.Common.{◌≡◌, arith, rules}
use Rattle.std.proofs.lemmas.Grind.{common_steps}
use Rattle.cord_node.specs.PartsFrom.{parts}
use Rattle.cord_node.proofs.TreeLemmas.{same_parts-cells}
use Rattle.cord_node.proofs.Node.same.Goals as goal

pub returns-in-Cat-Cat-clause-text : goal.returns-in-Cat-Cat-clause-text
returns-in-Cat-Cat-clause-text c = λ e.
    let p : parts c.args.self.now ≡ parts c.args.other.now = grind (arith, common_steps) in
    same_parts-cells c.args.self.now c.args.other.now p

pub returns-in_default : goal.returns-in_default
returns-in_default c = search rules

pub returns-in_default-2 : goal.returns-in_default-2
returns-in_default-2 c = search rules

pub returns-in_default-3 : goal.returns-in_default-3
returns-in_default-3 c = search rules

pub returns-in_default-4 : goal.returns-in_default-4
returns-in_default-4 c = search rules
