use Rattle.cord_run.proofs.Common.{ap, sym, ◌∙◌, expr_view, prefix_view, members_view, view-Name}
use Rattle.cord_run.proofs.Known.{last_named}
use Rattle.cord_run.proofs.runner.known_lengths.last_name.Goals as goal

pub returns-in-Name : goal.returns-in-Name
returns-in-Name c =
    last_named (members_view c.args.members.now) (prefix_view c.halves.result.0) c.halves.result.1.now c.in_ok-last.field-0.now
    c.in-Name.name c.halves.ensures.members (sym c.in_ok-last.ensures.value)
    (ap expr_view (sym c.as_ref.ensures ∙ c.in-Name.is) ∙ view-Name c.in-Name.name)
