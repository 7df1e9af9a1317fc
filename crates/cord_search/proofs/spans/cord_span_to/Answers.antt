use Rattle.cord_search.proofs.Common.{arith}
use Rattle.cord_search.proofs.Lemmas.{span_to}
use Rattle.cord_search.proofs.spans.cord_span_to.Goals as goal

pub returns : goal.returns
returns c = span_to c.of_part-part.ensures.spot (omega (arith, c.span.ensures.len)) c.span.ensures.span
