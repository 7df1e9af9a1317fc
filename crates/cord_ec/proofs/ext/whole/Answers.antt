use Rattle.std.proofs.Common.{◌++◌, List, subst}
use Rattle.cord_node.specs.PartsFrom.{Part, PartsFrom}
use Rattle.cord_core.specs.Cord.{parts_of}
use Rattle.cord_ec.proofs.ext.whole.Goals as goal

pub returns-clause-parts_from : goal.returns-clause-parts_from
returns-clause-parts_from c = subst (λ (ps : List Part). PartsFrom (parts_of c.args.cord.now ++ ps) (parts_of c.in_ok-longer.longer))
    c.in_ok-leaf.ensures.parts c.in_ok-longer.ensures.parts_from
