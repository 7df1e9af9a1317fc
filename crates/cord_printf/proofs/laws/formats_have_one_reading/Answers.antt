use Rattle.cord_printf.proofs.Unique.{format-unique}
use Rattle.cord_printf.proofs.laws.formats_have_one_reading.Goals as goal

pub returns : goal.returns
returns c = format-unique
