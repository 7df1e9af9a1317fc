use Rattle.std.specs.Prelude.{◌++◌, ◌≡◌}
use Rattle.cord_script.proofs.Common.{◌∙◌, Some, ap, sym, subst, arith, option_map, format_wants, HasFormat, IfSome, Printed, Stays, scope_of}
use Rattle.cord_script.specs.inner.LineReading.{wanted_error}
use Rattle.cord_script.proofs.FormErrors.{prefix_error, rest_error}
use Rattle.cord_script.proofs.diagnosis.printed_error.Goals as goal

pub returns-in-Some : goal.returns-in-Some
returns-in-Some c = prefix_error (scope_of c.args.context.now) c.args.words.now (option_map (λ w. w.items) c.in-Ok.arguments) c.in-Some.kind
    (omega arith) c.in-Ok.ensures.wants (sym c.earliest_error.ensures ∙ c.in-Some.is)

pub returns : goal.returns
returns c =
    let scope = scope_of c.args.context.now in
    let words = c.args.words.now in
    let wants = c.in-Some-arguments.arguments.items in
    let has = subst (λ o. HasFormat Printed words (option_map (λ w. w.items) o)) c.in-Some-arguments.is c.in-Ok.ensures.wants in
    let wrong = c.arguments_error.result in
    rest_error scope words wants wrong (omega arith) has (sym c.earliest_error.ensures ∙ c.in_default-earliest_error.is)
    (subst (λ xs. IfSome wrong (λ kind. wanted_error Stays scope (format_wants ++ xs) words ≡ Some kind)) c.deref.ensures.value
    c.arguments_error.ensures)
