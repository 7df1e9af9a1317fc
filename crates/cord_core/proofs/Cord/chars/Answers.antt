use Rattle.std.proofs.Common.{refl, sym, ap, subst}
use Rattle.std.specs.Prelude.{Some}
use Rattle.cord_node.specs.Tree.{cells}
use Rattle.cord_core.specs.Forms.{IsRunOf}
use Rattle.cord_core.proofs.Cord.chars.Goals as goal

pub returns-clause-form : goal.returns-clause-form
returns-clause-form c = subst (λ node. IsRunOf c.args.c c.args.n (Some node)) (sym c.in_ok-node.ensures.form) (refl, refl)

pub returns-clause-text : goal.returns-clause-text
returns-clause-text c = ap cells c.in_ok-node.ensures.form
