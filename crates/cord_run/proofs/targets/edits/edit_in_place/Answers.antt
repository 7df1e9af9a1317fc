use Rattle.cord_run.proofs.Common.{Err, ap, refl, CordError, made_view, IsUnmadeOfNames, stop_of_cord, passed_on}
use Rattle.cord_run.proofs.Edits.{edited_by, middle_refused, splice_refused}
use Rattle.cord_run.proofs.targets.edits.edit_in_place.Goals as goal

pub returns-in_err-middle-clause-refused : goal.returns-in_err-middle-clause-refused
returns-in_err-middle-clause-refused c =
    let entries = c.args.store.now.entries.items in
    let made = made_view c.args.made.now in
    passed_on (IsUnmadeOfNames entries made) c.in_err-middle.field-0.0 c.from_residual.result c.from_residual.ensures.1
    (middle_refused entries c.args.target.now made c.args.edit c.requires c.in_err-middle.field-0.0 c.in_err-middle.ensures.refused)

pub returns-in_err-splice_at-clause-refused : goal.returns-in_err-splice_at-clause-refused
returns-in_err-splice_at-clause-refused c =
    let entries = c.args.store.now.entries.items in
    let made = made_view c.args.made.now in
    let refusal = c.in_err-splice_at.ensures c.args.target.now c.requires.at.first in
    passed_on (IsUnmadeOfNames entries made) (stop_of_cord c.in_err-splice_at.field-0.0) c.from_residual-in_err-splice_at.result
    c.from_residual-in_err-splice_at.ensures.1
    (splice_refused entries c.args.target.now made c.args.edit c.requires c.in_ok-middle.middle c.in_ok-middle.ensures.made
    c.in_err-splice_at.field-0.0 refusal.refused (λ is. refusal.too_long (ap (λ (error : CordError). Err error) is)))

pub returns-in_err-splice_at-clause-unchanged : goal.returns-in_err-splice_at-clause-unchanged
returns-in_err-splice_at-clause-unchanged c = λ is. (c.in_err-splice_at.ensures c.args.target.now c.requires.at.first).unchanged refl

pub returns-clause-edited : goal.returns-clause-edited
returns-clause-edited c =
    edited_by c.args.store.now.entries.items c.args.target.now (made_view c.args.made.now) c.args.edit c.requires c.in_ok-middle.middle
    c.in_ok-middle.ensures.made c.splice_at.new.self.entries.items
    (c.in_ok-splice_at.ensures c.args.target.now c.requires.at.first).spliced
