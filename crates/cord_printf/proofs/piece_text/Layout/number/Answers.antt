use Rattle.std.proofs.Common.{◌+◌, sym, refl, arith}
use Rattle.cord_printf.proofs.Layouts.{zero_layout, blank_layout}
use Rattle.cord_printf.proofs.piece_text.Layout.number.Goals as goal

pub returns-then-fills_zeros : goal.returns-then-fills_zeros
returns-then-fills_zeros c = zero_layout c.args.flags c.args.width c.args.precision c.args.sign c.args.digits c.saturating_sub-zeros.result
    c.saturating_sub.result (c.saturating_sub-zeros.result + c.saturating_sub.result) (sym (c.if-fills_zeros.ensures)) (omega arith)
    (omega arith) refl

pub returns : goal.returns
returns c = blank_layout c.args.flags c.args.width c.args.precision c.args.sign c.args.digits c.saturating_sub-zeros.result c.from-4.result
    c.padding-blanks.result.before c.padding-blanks.result.after (sym c.if-fills_zeros.ensures) (omega arith)
    (omega arith) c.padding-blanks.ensures.before c.padding-blanks.ensures.after
