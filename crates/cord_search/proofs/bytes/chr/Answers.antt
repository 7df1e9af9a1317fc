use Rattle.cord_search.proofs.Lemmas.{shown_once, shown_over}
use Rattle.cord_search.proofs.bytes.chr.Goals as goal

pub returns-clause-first : goal.returns-clause-first
returns-clause-first g c = shown_over (shown_once c.in_ok-first_byte.ensures (λ t held found. found)) g.met.S.Source.lengths_of_table

pub returns-clause-from : goal.returns-clause-from
returns-clause-from g c = c.in_ok-first_byte.ensures.always.0
