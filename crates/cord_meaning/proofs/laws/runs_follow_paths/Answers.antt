use Rattle.cord_meaning.proofs.Common.{start_state, rules}
use Rattle.cord_meaning.proofs.Follows.{follows}
use Rattle.cord_meaning.proofs.laws.runs_follow_paths.Goals as goal

pub returns : goal.returns
returns c = λ limit most statements files k nested running. follows (rules limit files) most statements nested start_state k running
