use Rattle.cord_run.proofs.Common.{rules, members_view, prefix_lighter, ◌<◌}
use Rattle.cord_run.proofs.ShortTexts.{weights}
use Rattle.cord_run.proofs.expressions.short_texts.+gather_members.Goals as goal

pub gather_members-requires : goal.gather_members-requires
gather_members-requires t c =
    let below : weights (members_view c.in-Some.prefix.now) < weights (members_view c.args.members.now) =
    prefix_lighter (members_view c.args.members.now) c.halves.result.0 c.halves.result.1.now c.halves.ensures.members
    c.halves.ensures.after c.in-Some.prefix c.in-Some.is in
    search (rules, below)
