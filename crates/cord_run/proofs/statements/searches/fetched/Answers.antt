use Rattle.cord_run.proofs.Common.{Ok, rules, as_index, ◌≡◌}
use Rattle.cord_run.proofs.Numbers.{past_fetched}
use Rattle.cord_run.proofs.statements.searches.fetched.Goals as goal

pub returns-then-len-index-clause-found : goal.returns-then-len-index-clause-found
returns-then-len-index-clause-found g c = λ file_system agrees.
    let checked : as_index c.args.index ≡ Ok c.in_ok-index.index = search rules in
    past_fetched (g.R.Source.lengths c.args.source.now) c.args.cord.now c.len.ensures.sound c.requires.fits c.args.index
    c.in_ok-index.index checked (g.R.Source.table c.args.source.now file_system)
    (g.met.R.Source.lengths_of_table c.args.source.now file_system agrees) (search rules)
