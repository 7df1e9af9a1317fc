use Rattle.cord_run.proofs.Common.{◌∙◌, MAX_LEN, format_text, and_then, within, IsFaultOver, stop_of_print, passed_on}
use Rattle.cord_run.proofs.Literals.{printed_cord, unprinted_unless}
use Rattle.cord_run.proofs.targets.prints.print.Goals as goal

pub returns-in_err-sprintf-clause-refused : goal.returns-in_err-sprintf-clause-refused
returns-in_err-sprintf-clause-refused c =
    passed_on (IsFaultOver c.args.store.now.entries.items (λ s. and_then (format_text s c.args.format.now c.args.arguments.now)
    (λ t. within MAX_LEN t))) (stop_of_print c.in_err-sprintf.field-0.0) c.from_residual-in_err-sprintf.result
    c.from_residual-in_err-sprintf.ensures.1
    (unprinted_unless c.args.store.now.entries.items c.args.format.now c.args.arguments.now c.deref.result.now
    (c.deref.ensures.value ∙ c.in_ok-args.ensures.made) c.in_err-sprintf.field-0.0 c.in_err-sprintf.ensures.refused)

pub returns-clause-made : goal.returns-clause-made
returns-clause-made c = printed_cord c.args.store.now.entries.items c.args.format.now c.args.arguments.now c.deref.result.now
    (c.deref.ensures.value ∙ c.in_ok-args.ensures.made) c.in_ok-sprintf.field-0 c.in_ok-sprintf.ensures.taken c.in_ok-sprintf.ensures.over
    c.in_ok-sprintf.ensures.sound
