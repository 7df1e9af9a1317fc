use Rattle.cord_io.specs.declared.TheConstants.{MAX_LEN}
use Rattle.cord.specs.Plain.{no_table}
use Rattle.cord.specs.Prints.{IsRefusedFor}
use Rattle.cord.specs.inner.Prints.{AreArgumentsFor}
use Rattle.cord.proofs.PlainTexts.{plain_of}
use Rattle.cord.proofs.Printing.{print_has, wanted_alike, taken_alike, refused_alike}
use Rattle.cord.proofs.Results.{passed_on}
use Rattle.cord.proofs.text.Text.print.Goals as goal

pub returns-in_err-cord-clause-refused : goal.returns-in_err-cord-clause-refused
returns-in_err-cord-clause-refused c =
    let made : AreArgumentsFor c.args.args.now c.deref.result.now = rw c.deref.ensures.value c.in_ok-args.ensures in
    let e = c.in_err-cord.field-0.0 in
    passed_on (IsRefusedFor MAX_LEN c.args.format.now c.args.args.now) e c.from_residual-in_err-cord.result
    c.from_residual-in_err-cord.ensures.1 (refused_alike c.args.format.now c.args.args.now c.deref.result.now made MAX_LEN e
    c.in_err-cord.ensures.refused)

pub invariant_of-result : goal.invariant_of-result
invariant_of-result c =
    let made : AreArgumentsFor c.args.args.now c.deref.result.now = rw c.deref.ensures.value c.in_ok-args.ensures in
    plain_of _ c.in_ok-cord.cord c.in_ok-cord.ensures.sound
    (print_has c.args.format.now c.args.args.now c.deref.result.now made c.in_ok-cord.cord c.in_ok-cord.ensures.over)

pub returns-clause-text : goal.returns-clause-text
returns-clause-text c =
    let made : AreArgumentsFor c.args.args.now c.deref.result.now = rw c.deref.ensures.value c.in_ok-args.ensures in
    (print_has c.args.format.now c.args.args.now c.deref.result.now made c.in_ok-cord.cord c.in_ok-cord.ensures.over).bytes no_table

pub returns-clause-wanted : goal.returns-clause-wanted
returns-clause-wanted c =
    let made : AreArgumentsFor c.args.args.now c.deref.result.now = rw c.deref.ensures.value c.in_ok-args.ensures in
    wanted_alike c.args.format.now c.args.args.now c.deref.result.now made c.in_ok-cord.ensures.taken.wanted_are

pub returns-clause-taken : goal.returns-clause-taken
returns-clause-taken c =
    let made : AreArgumentsFor c.args.args.now c.deref.result.now = rw c.deref.ensures.value c.in_ok-args.ensures in
    taken_alike c.args.format.now c.args.args.now c.deref.result.now made c.in_ok-cord.ensures.taken.none_refused
