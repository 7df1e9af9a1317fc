use Rattle.cord_lines.proofs.Readings.{around_where}
use Rattle.cord_lines.proofs.around.around_near.Goals as goal

pub returns-then-are_near : goal.returns-then-are_near
returns-then-are_near c = around_where c.around_after.ensures (λ known. known.1)

pub returns-else-are_near : goal.returns-else-are_near
returns-else-are_near c = around_where c.around_within.ensures (λ known. known.0)
