use Rattle.cord_meaning.proofs.ReadScripts.{read_nested, read_numbered}
use Rattle.cord_meaning.proofs.laws.read_scripts_are_closed.Goals as goal

pub returns-clause-nested : goal.returns-clause-nested
returns-clause-nested c = λ script statements reads. read_nested script statements reads

pub returns-clause-numbered : goal.returns-clause-numbered
returns-clause-numbered c = λ script statements reads. read_numbered script statements reads
