use Rattle.cord_plan.proofs.Common.{decimal, made, made_view}
use Rattle.cord_plan.proofs.Spacing.{given_line}
use Rattle.cord_plan.proofs.Writing.{writes_same, writes_then, writes_stopped, writes_failed}
use Rattle.cord_plan.proofs.plan_text.put_assignment.Goals as goal

pub returns-in_err-put_fragments : goal.returns-in_err-put_fragments
returns-in_err-put_fragments g c = let rest = made (made_view c.args.made.now) in
    writes_failed c.from_residual.ensures.0 (writes_same (given_line (decimal c.args.line) c.args.verb.now c.args.target.now rest)
    (writes_stopped rest c.in_err-put_fragments.ensures))

pub returns : goal.returns
returns g c = let rest = made (made_view c.args.made.now) in
    writes_same (given_line (decimal c.args.line) c.args.verb.now c.args.target.now rest)
    (writes_then c.in_ok-put_fragments.ensures c.put_made.ensures)
