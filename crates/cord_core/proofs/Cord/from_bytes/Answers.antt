use Rattle.std.proofs.Common.{subst}
use Rattle.cord_core.specs.Forms.{IsLeafOf}
use Rattle.cord_core.proofs.Parts.{leaf_text, leaf_len, leaf_over}
use Rattle.cord_core.proofs.Cord.from_bytes.Goals as goal

pub returns-clause-form : goal.returns-clause-form
returns-clause-form c = subst (λ bytes. IsLeafOf bytes c.in_ok-cord.cord) c.in_ok-shared.ensures.ok c.in_ok-cord.ensures.form

pub returns-clause-text : goal.returns-clause-text
returns-clause-text c = leaf_text c.args.bytes.now c.in_ok-cord.cord (returns-clause-form c)

pub returns-clause-len : goal.returns-clause-len
returns-clause-len c = leaf_len c.args.bytes.now c.in_ok-cord.cord (returns-clause-form c)

pub returns-clause-over : goal.returns-clause-over
returns-clause-over c = leaf_over c.args.bytes.now c.in_ok-cord.cord (returns-clause-form c)
