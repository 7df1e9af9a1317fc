use Rattle.cord_script.proofs.Examples.{examples}
use Rattle.cord_script.proofs.laws.worked_examples_hold.Goals as goal

pub returns : goal.returns
returns c = examples c.bytes_are_format_or_bad.ensures
