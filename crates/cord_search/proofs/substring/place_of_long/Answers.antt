use Rattle.cord_search.proofs.Common.{IsPieceOf}
use Rattle.cord_search.proofs.Lemmas.{answer_on, read_on, shown_new, shown_on, shown_once}
use Rattle.cord_search.proofs.substring.place_of_long.Goals as goal

pub first_confirmed-requires-clause-known : goal.first_confirmed-requires-clause-known
first_confirmed-requires-clause-known g c = rw c.new-finder.ensures (shown_new (shown_on (shown_once {R = λ t. IsPieceOf t c.args.s.now 0
    c.gather.new.out} c.in_ok-gather.ensures (λ t held prefix. prefix)) c.in_ok-repeats.ensures (λ t held prefix repeats. record { prefix = prefix; repeats = repeats })))

pub returns : goal.returns
returns g c = answer_on (read_on c.in_ok-gather.ensures.read c.in_ok-repeats.ensures.read) c.in_ok-place.ensures
