use Rattle.cord_search.proofs.Lemmas.{whole_found}
use Rattle.cord_search.proofs.substring.str.Goals as goal

pub returns-clause-first : goal.returns-clause-first
returns-clause-first g c = λ file_system agrees. whole_found {lengths = g.S.Source.lengths c.args.src.now}
    {t = g.S.Source.table c.args.src.now file_system} _ _ _
    (record { lens = g.met.S.Source.lengths_of_table c.args.src.now file_system (c.str_in.ensures.source.earlier file_system agrees) })
    (record { sound = c.len.ensures.sound; fits = c.requires.fits }) c.len.ensures.stored (c.str_in.ensures.first file_system agrees)

pub returns-clause-from : goal.returns-clause-from
returns-clause-from g c = c.str_in.ensures.from
