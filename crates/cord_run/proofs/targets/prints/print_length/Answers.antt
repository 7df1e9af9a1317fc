use Rattle.cord_run.proofs.Common.{◌∙◌, MAX_LEN, format_text, and_then, within, IsFaultOver, stop_of_print, passed_on}
use Rattle.cord_run.proofs.Literals.{printed_length, unprinted}
use Rattle.cord_run.proofs.targets.prints.print_length.Goals as goal

pub returns-in_err-sprintf_len-clause-refused : goal.returns-in_err-sprintf_len-clause-refused
returns-in_err-sprintf_len-clause-refused c =
    passed_on (IsFaultOver c.args.store.now.entries.items (λ s. and_then (format_text s c.args.format.now c.args.arguments.now)
    (λ t. within MAX_LEN t))) (stop_of_print c.in_err-sprintf_len.field-0.0) c.from_residual-in_err-sprintf_len.result
    c.from_residual-in_err-sprintf_len.ensures.1
    (unprinted c.args.store.now.entries.items c.args.format.now c.args.arguments.now c.deref.result.now
    (c.deref.ensures.value ∙ c.in_ok-args.ensures.made) c.in_err-sprintf_len.field-0.0 c.in_err-sprintf_len.ensures.refused)

pub returns-clause-reported : goal.returns-clause-reported
returns-clause-reported c = printed_length c.args.store.now.entries.items c.args.format.now c.args.arguments.now c.deref.result.now
    (c.deref.ensures.value ∙ c.in_ok-args.ensures.made) c.in_ok-sprintf_len.field-0 c.in_ok-sprintf_len.ensures.taken c.in_ok-sprintf_len.ensures.length
    c.in_ok-sprintf_len.ensures.within_limit
