use Rattle.cord_search.proofs.Lemmas.{shown_once, shown_over}
use Rattle.cord_search.proofs.bytes.rchr.Goals as goal

pub returns-clause-last : goal.returns-clause-last
returns-clause-last g c = shown_over (shown_once c.in_ok-last_byte.ensures (λ t held found. found)) g.met.S.Source.lengths_of_table

pub returns-clause-up_to : goal.returns-clause-up_to
returns-clause-up_to g c = c.in_ok-last_byte.ensures.always
