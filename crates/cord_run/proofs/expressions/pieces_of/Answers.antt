use Rattle.cord_run.proofs.Common.{expr_view}
use Rattle.cord_run.proofs.Parts.{whole_faulty}
use Rattle.cord_run.proofs.expressions.pieces_of.Goals as goal

pub returns-in-Err-clause-refused : goal.returns-in-Err-clause-refused
returns-in-Err-clause-refused c = whole_faulty c.args.store.now.entries.items (expr_view c.args.expression.now) c.in-Err.kind
    c.in-Err.ensures
