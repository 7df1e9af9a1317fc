use Rattle.cord_run.proofs.Common.{drop, IfSome, expr_view, members_view, length_in, counted, members_extent, members_seen, ◌≡◌, ◌+◌, ◌<◌}
use Rattle.cord_run.proofs.Common.{◌^◌}
use Rattle.cord_run.proofs.ShortTexts.{weight, weights}
use Rattle.cord_run.proofs.expressions.lengths.+length_of.Given as goal

abbrev pub decreases-length_of : goal.decreases-length_of
decreases-length_of l = weight (expr_view l.expression.now)

abbrev pub decreases-length_of_members : goal.decreases-length_of_members
decreases-length_of_members l = weights (members_view l.members.now) + 1

abbrev pub decreases-length_after : goal.decreases-length_after
decreases-length_after l = weights (members_seen l.members.now)

abbrev pub invariant-length_after-loop-member : goal.invariant-length_after-loop-member
invariant-length_after-loop-member l = record {
  extent : counted l.before (members_extent l.store.entries.items (members_seen l.members))
      ≡ counted l.total (members_extent l.store.entries.items (members_seen (drop l.member-index l.members)));
  small : l.total < 2 ^ 64;
  known : IfSome l.last (λ known. known.len ≡ length_in l.store.entries.items known.name.now);
}
