use Rattle.cord_search.proofs.Common.{rules}
use Rattle.cord_search.proofs.Lemmas.{answered, shown_once}
use Rattle.cord_search.proofs.periods.repeats_of.Goals as goal

pub returns : goal.returns
returns g c = answered (search rules) (shown_once c.in_ok-count.ensures
    (λ t held common. rw c.len.ensures.stored at common))
