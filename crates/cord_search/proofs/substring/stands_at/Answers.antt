use Rattle.cord_search.proofs.Lemmas.{answered, order_tells, shown_once}
use Rattle.cord_search.proofs.substring.stands_at.Goals as goal

pub returns : goal.returns
returns g c = rw c.is_eq.ensures (answered tt (shown_once c.in_ok-compare.ensures (λ t held order.
    order_tells c.args.place held c.requires.text c.requires.pattern c.len.ensures.stored c.len-2.ensures.stored c.in_ok-compare.field-0
    c.requires.inside order)))
