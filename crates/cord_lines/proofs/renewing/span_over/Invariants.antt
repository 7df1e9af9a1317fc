use Rattle.cord_lines.proofs.Common.{length, ◌+◌, ◌-◌, ◌≡◌}
use Rattle.cord_lines.specs.inner.Edits.{IsSpan}
use Rattle.cord_lines.proofs.renewing.span_over.Given as goal

abbrev pub invariant-loop-span : goal.invariant-loop-span
invariant-loop-span l = record {
  span : IsSpan l.blocks l.span;
  from : l.span.start ≡ l.fn.found.before.bytes;
}

abbrev pub decreases-loop-span : goal.decreases-loop-span
decreases-loop-span l = length l.blocks - (l.span.first + l.span.count)
