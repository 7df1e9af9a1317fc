use Rattle.cord_plan.proofs.Pairs.{leaves_out, leaves_out_read}
use Rattle.cord_plan.proofs.pair_laws.pairs_leave_their_name_out.Goals as goal

pub returns-clause-of_cords : goal.returns-clause-of_cords
returns-clause-of_cords c = λ s later a b t e pair no_number. leaves_out s later a b t e pair no_number

pub returns-clause-of_scripts : goal.returns-clause-of_scripts
returns-clause-of_scripts c = λ g text s later a b t e read pair. leaves_out_read s later g text read a b t e pair
