use Rattle.std.proofs.Common.{◌≡◌, ◌+◌, ◌-◌, ◌∙◌, ap}
use Rattle.cord_pos.specs.Position.{moved_index, prev_index}
use Rattle.cord_pos.specs.Spans.{span_len}
use Rattle.cord.proofs.Chunking.{after_plain, step_back}
use Rattle.cord.proofs.chunks_back.ChunksBackIterator.next.Goals as goal

pub of-requires-clause-plain : goal.of-requires-clause-plain
of-requires-clause-plain c = after_plain c.self.inside.position.cord c.self.inside.position.index c.in_ok-span.span c.self.invariant
    c.in_ok-span.ensures.span

pub returns-clause-steps : goal.returns-clause-steps
returns-clause-steps c =
    let from = c.self.inside.position in
    let i = c.in_ok-index.index in
    let s = c.in_ok-span.span in
    let moved : c.move_to.new.self.index ≡ moved_index from.cord from.index (i + 1 - span_len s) =
    rw c.len.ensures at c.move_to.ensures.index in
    rw (← c.self.view_is) (step_back from.cord from.index i s c.of.result c.prev.new.self.cord c.prev.new.self.index c.self.invariant
    c.in_ok-index.ensures.value c.in_ok-span.ensures.span c.of.ensures.bytes c.of.ensures.len
    (c.prev.ensures.cord ∙ c.move_to.ensures.cord) (c.prev.ensures.index ∙ ap prev_index moved))
