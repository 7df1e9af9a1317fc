use Rattle.cord_search.proofs.Common.{arith, length, text_len}
use Rattle.cord_search.proofs.Lemmas.{cut_found, ends_within, shown_over}
use Rattle.cord_search.proofs.substring.find_bytes_in.Goals as goal

pub returns-clause-first : goal.returns-clause-first
returns-clause-first g c = shown_over (cut_found c.args.x.now (λ t. c.args.bytes.now) c.args.end c.args.start c.in_ok-first_place_of_bytes.ensures (record { sound = c.len.ensures.sound; fits = c.requires.fits }) c.len.ensures.stored c.min-end.ensures) g.met.S.Source.lengths_of_table

pub returns-clause-before : goal.returns-clause-before
returns-clause-before g c = ends_within _ (length c.args.bytes.now) c.min-end.result c.args.end (omega (arith, c.min-end.ensures))
    c.in_ok-first_place_of_bytes.ensures.always.within

pub returns-clause-within : goal.returns-clause-within
returns-clause-within g c = ends_within _ (length c.args.bytes.now) c.min-end.result (text_len c.args.x.now)
    (omega (arith, c.min-end.ensures, c.len.ensures.stored)) c.in_ok-first_place_of_bytes.ensures.always.within

pub returns-clause-from : goal.returns-clause-from
returns-clause-from g c = c.in_ok-first_place_of_bytes.ensures.always.from
