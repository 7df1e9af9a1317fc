use Rattle.cord.proofs.Chunking.{span_plain, chunk_ahead}
use Rattle.cord.proofs.chunks.Chunks.ahead.Goals as goal

pub of-requires-clause-plain : goal.of-requires-clause-plain
of-requires-clause-plain c = span_plain c.self.inside.position.cord c.self.invariant c.self.inside.position.index c.in_ok-span.span
    c.in_ok-span.ensures.span

pub returns : goal.returns
returns c = rw (← c.self.view_is) (chunk_ahead c.self.inside.position.cord c.self.invariant c.self.inside.position.index
    c.in_ok-span.span c.of.result c.in_ok-span.ensures.span c.of.ensures.bytes c.of.ensures.len)
