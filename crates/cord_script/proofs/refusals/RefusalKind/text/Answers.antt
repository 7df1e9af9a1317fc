use Rattle.cord_script.proofs.Common.{sym, ap}
use Rattle.cord_script.specs.Refusals.{text_of}
use Rattle.cord_script.proofs.refusals.RefusalKind.text.Goals as goal

pub returns-in-EndAlone : goal.returns-in-EndAlone
returns-in-EndAlone c = ap text_of (sym c.in-EndAlone.is)
