use Rattle.cord_run.proofs.Common.{rules, expr_view, IsTextIn}
use Rattle.cord_run.proofs.expressions.output.put_gathered.Goals as goal

pub returns : goal.returns
returns g c =
    let text : IsTextIn c.args.store.now.entries.items (expr_view c.args.expression.now) c.as_slice.result.now = search rules in
    (c.as_slice.result.now, text, c.put_bytes.ensures)
