use Rattle.cord_search.proofs.Common.{Shows, span_bytes, span_len, take, ◌-◌, ◌≡◌, ◌≤◌}
use Rattle.cord_search.proofs.span_order.order_by.Given as goal

-- the first `done` bytes are the same
abbrev pub invariant-loop-done : goal.invariant-loop-done
invariant-loop-done g l = record {
  in_range : l.done ≤ span_len l.span;
  same : Shows g.S.Source l.initial.src l.src (λ t. take l.done (span_bytes t l.span) ≡ take l.done (span_bytes t l.other));
}

abbrev pub decreases-loop-done : goal.decreases-loop-done
decreases-loop-done g l = span_len l.span - l.done
