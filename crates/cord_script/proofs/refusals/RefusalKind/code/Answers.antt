use Rattle.cord_script.proofs.Common.{sym, ap}
use Rattle.cord_script.specs.Refusals.{code_of}
use Rattle.cord_script.proofs.refusals.RefusalKind.code.Goals as goal

pub returns-in-ElseAlone : goal.returns-in-ElseAlone
returns-in-ElseAlone c = ap code_of (sym c.in-ElseAlone.is)
