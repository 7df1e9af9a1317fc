use Rattle.cord_run.proofs.Common.{members_view}
use Rattle.cord_run.proofs.ShortTexts.{weights}
use Rattle.cord_run.proofs.expressions.short_texts.+gather_members.Given as goal

abbrev pub decreases-gather_members : goal.decreases-gather_members
decreases-gather_members l = weights (members_view l.members.now)
