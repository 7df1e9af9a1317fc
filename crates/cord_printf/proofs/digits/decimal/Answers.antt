use Rattle.std.proofs.Common.{◌∙◌, sym, append-nil, arith}
use Rattle.std.specs.Fmt.{decimal}
use Rattle.std.proofs.lemmas.Fmt.{length-decimal-le}
use Rattle.cord_printf.proofs.Figures.{decimal-figures}
use Rattle.cord_printf.proofs.digits.decimal.Goals as goal

pub write_digits-start-requires : goal.write_digits-start-requires
write_digits-start-requires c = (length-decimal-le 22 c.args.number (omega arith) (omega arith) c.ranges.number.fits, omega arith)

pub returns : goal.returns
returns c = c.write_digits-start.ensures.written ∙ append-nil (decimal c.args.number)
    ∙ sym (decimal-figures c.args.number (omega arith) c.ranges.number.fits)
