use Rattle.std.proofs.Common.{Some}
use Rattle.cord.proofs.Chunking.{span_plain, chunk_ahead}
use Rattle.cord.proofs.text.Text.chunk_at.Goals as goal

pub of-requires-clause-plain : goal.of-requires-clause-plain
of-requires-clause-plain c = span_plain c.self.inside.cord c.self.invariant (Some c.args.place) c.cord_span_at.result c.cord_span_at.ensures

pub returns : goal.returns
returns c = rw (← c.self.view_is) (chunk_ahead c.self.inside.cord c.self.invariant (Some c.args.place) c.cord_span_at.result c.of.result
    c.cord_span_at.ensures c.of.ensures.bytes c.of.ensures.len)
