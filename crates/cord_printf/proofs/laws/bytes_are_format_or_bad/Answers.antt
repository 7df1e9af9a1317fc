use Rattle.cord_printf.proofs.Either.{format_or_bad}
use Rattle.cord_printf.proofs.laws.bytes_are_format_or_bad.Goals as goal

pub returns : goal.returns
returns c = format_or_bad
