use Rattle.cord_pos.proofs.Common.{rules}
use Rattle.cord_pos.proofs.span.Span.len.Goals as goal

pub returns-in-Func : goal.returns-in-Func
returns-in-Func c = search rules
