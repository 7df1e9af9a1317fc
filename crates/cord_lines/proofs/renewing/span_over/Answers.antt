use Rattle.cord_lines.proofs.Common.{arith, ◌+◌}
use Rattle.cord_lines.proofs.Sums.{room}
use Rattle.cord_lines.proofs.renewing.span_over.Goals as goal

pub with_next-span-requires-clause-more : goal.with_next-span-requires-clause-more
with_next-span-requires-clause-more c =
    let span = c.loop-span.span in
    room c.args.blocks.now (span.first + span.count) (span.start + span.bytes) c.loop-span.invariant.span.end c.loop-span.invariant.span.inside
    (omega (arith, c.loop-span-test.true, c.requires.inside))
