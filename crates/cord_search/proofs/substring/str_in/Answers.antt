use Rattle.cord_search.proofs.Common.{arith, bytes_of, text_len}
use Rattle.cord_search.proofs.Lemmas.{cut_found, ends_within, shown_over}
use Rattle.cord_search.proofs.substring.str_in.Goals as goal

pub returns-clause-first : goal.returns-clause-first
returns-clause-first g c = shown_over (cut_found c.args.x.now (λ t. bytes_of t c.args.s.now) c.args.end c.args.start c.in_ok-first_place.ensures
    (record { sound = c.len.ensures.sound; fits = c.requires.fits }) c.len.ensures.stored c.min-end.ensures) g.met.S.Source.lengths_of_table

pub returns-clause-from : goal.returns-clause-from
returns-clause-from g c = c.in_ok-first_place.ensures.always.from

pub returns-clause-before : goal.returns-clause-before
returns-clause-before g c = ends_within _ (text_len c.args.s.now) c.min-end.result c.args.end (omega (arith, c.min-end.ensures))
    c.in_ok-first_place.ensures.always.within

pub returns-clause-within : goal.returns-clause-within
returns-clause-within g c = ends_within _ (text_len c.args.s.now) c.min-end.result (text_len c.args.x.now)
    (omega (arith, c.min-end.ensures, c.len.ensures.stored)) c.in_ok-first_place.ensures.always.within
