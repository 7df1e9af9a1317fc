use Rattle.cord_printf.proofs.Figures.{numeral}
use Rattle.cord_printf.proofs.laws.digits_write_their_number.Goals as goal

pub returns : goal.returns
returns c = numeral
