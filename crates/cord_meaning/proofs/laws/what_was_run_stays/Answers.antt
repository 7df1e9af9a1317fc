use Rattle.cord_meaning.proofs.Common.{start_state, rules}
use Rattle.cord_meaning.proofs.Grows.{grows, begins_whole}
use Rattle.cord_meaning.proofs.laws.what_was_run_stays.Goals as goal

pub returns-clause-more : goal.returns-clause-more
returns-clause-more c = λ limit most statements files k j. grows (rules limit files) most statements start_state k j

pub returns-clause-whole : goal.returns-clause-whole
returns-clause-whole c = λ limit most statements files k. begins_whole (rules limit files) most statements start_state k
