use Rattle.cord_lines.proofs.Readings.{exact_counts}
use Rattle.cord_lines.proofs.reading.count_range.Goals as goal

pub returns : goal.returns
returns c = exact_counts c.count_next.ensures
