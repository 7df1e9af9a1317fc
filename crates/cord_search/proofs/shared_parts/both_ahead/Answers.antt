use Rattle.cord_search.proofs.Common.{arith, ◌<◌}
use Rattle.cord_search.proofs.Lemmas.{prefix_span, spans_alike}
use Rattle.cord_search.proofs.shared_parts.both_ahead.Goals as goal

pub returns-then-begin_alike : goal.returns-then-begin_alike
returns-then-begin_alike c = λ x i y j left right. (
  omega (arith, c.min-count.ensures, c.min.ensures, c.len.ensures, c.len-2.ensures, c.requires, left.some, right.some),
  omega (arith, c.min-count.ensures, c.min.ensures),
  spans_alike c.min-count.result left right (c.begin_alike.ensures c.if-begin_alike.true)
      (omega (arith, c.min-count.ensures, c.min.ensures, c.len.ensures)) (omega (arith, c.min-count.ensures, c.len-2.ensures)),
)

pub returns : goal.returns
returns c = λ x i y j left right.
    let k = c.min-count.result in
    let some : 0 < k = omega (arith, c.min-count.ensures, c.min.ensures, c.len.ensures, c.len-2.ensures, c.requires, left.some, right.some) in (
      prefix_span some (omega (arith, c.min-count.ensures, c.min.ensures, c.len.ensures)) left c.up_to.ensures,
      prefix_span some (omega (arith, c.min-count.ensures, c.len-2.ensures)) right c.up_to-2.ensures,
      omega (arith, c.up_to.ensures.len, c.up_to-2.ensures.len),
      omega (arith, c.up_to.ensures.len, c.min-count.ensures, c.min.ensures),
    )
