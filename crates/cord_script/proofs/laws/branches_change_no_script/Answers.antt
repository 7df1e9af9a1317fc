use Rattle.cord_script.proofs.Single.{with_branches}
use Rattle.cord_script.proofs.laws.branches_change_no_script.Goals as goal

pub returns : goal.returns
returns c = with_branches
