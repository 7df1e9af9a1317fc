use Rattle.std.proofs.Common.{refl, sym, subst}
use Rattle.std.specs.Prelude.{Some}
use Rattle.std.specs.Rc.{rc_slice_items}
use Rattle.cord_core.specs.Forms.{IsLeafOf}
use Rattle.cord_core.proofs.Parts.{leaf_text, leaf_len, leaf_over}
use Rattle.cord_core.proofs.Cord.from_shared.Goals as goal

pub returns-clause-form : goal.returns-clause-form
returns-clause-form c = subst (λ node. IsLeafOf (rc_slice_items c.args.bytes) (Some node)) (sym c.in_ok-node.ensures.form)
    (refl, refl, refl)

pub returns-clause-text : goal.returns-clause-text
returns-clause-text c = leaf_text (rc_slice_items c.args.bytes) (Some c.in_ok-node.node.value) (returns-clause-form c)

pub returns-clause-len : goal.returns-clause-len
returns-clause-len c = leaf_len (rc_slice_items c.args.bytes) (Some c.in_ok-node.node.value) (returns-clause-form c)

pub returns-clause-over : goal.returns-clause-over
returns-clause-over c = leaf_over (rc_slice_items c.args.bytes) (Some c.in_ok-node.node.value) (returns-clause-form c)
