use Rattle.cord_search.proofs.Lemmas.{span_of}
use Rattle.cord_search.proofs.spans.cord_span_at.Goals as goal

pub returns : goal.returns
returns c = span_of c.of_part-part.ensures.spot c.span.ensures.span
