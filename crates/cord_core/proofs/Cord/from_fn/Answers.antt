use Rattle.std.proofs.Common.{refl, sym, ap, subst, arith}
use Rattle.std.specs.Prelude.{Some}
use Rattle.cord_node.specs.Tree.{cells}
use Rattle.cord_core.specs.Forms.{IsFuncOf}
use Rattle.cord_core.proofs.Parts.{range_over}
use Rattle.cord_core.proofs.Cord.from_fn.Goals as goal

pub returns-clause-form : goal.returns-clause-form
returns-clause-form c = subst (λ node. IsFuncOf c.args.id.0 c.args.start c.args.n (Some node)) (sym c.in_ok-node.ensures.form)
    (refl, refl, refl)

pub returns-clause-text : goal.returns-clause-text
returns-clause-text c = ap cells c.in_ok-node.ensures.form

pub returns-clause-over : goal.returns-clause-over
returns-clause-over c = range_over _ _ _ _ (omega arith) (returns-clause-form c)
