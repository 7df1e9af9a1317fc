use Rattle.cord_printf.proofs.Layouts.{number_shown}
use Rattle.cord_printf.proofs.piece_text.show_digits.Goals as goal

pub returns-clause-text : goal.returns-clause-text
returns-clause-text c =
    rw (← c.of-digits.ensures) (number_shown c.args.flags c.args.width c.args.precision c.args.sign c.len.result c.number.result
    c.of-digits.result c.number.ensures c.len.ensures)
