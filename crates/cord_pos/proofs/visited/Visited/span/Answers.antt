use Rattle.cord_pos.proofs.Lemmas.{part_some}
use Rattle.cord_pos.proofs.visited.Visited.span.Goals as goal

pub returns : goal.returns
returns c = record {
  is = part_some _ _ c.of_part.ensures.none c.requires.part;
  span = c.of_part.ensures.span;
  len = c.of_part.ensures.len;
}
