use Rattle.cord_script.proofs.Either.{read_or_error}
use Rattle.cord_script.proofs.laws.bytes_are_read_or_have_an_error.Goals as goal

pub returns : goal.returns
returns c = read_or_error c.bytes_are_format_or_bad.ensures
