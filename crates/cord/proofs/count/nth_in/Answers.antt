use Rattle.cord.proofs.Counting.{nth_of_run}
use Rattle.cord.proofs.count.nth_in.Goals as goal

pub returns-in-Run : goal.returns-in-Run
returns-in-Run c = rw c.in-Run.is (nth_of_run c.in-Run.byte c.in-Run.count c.args.byte c.args.n (rw c.in-Run.is at c.requires))
