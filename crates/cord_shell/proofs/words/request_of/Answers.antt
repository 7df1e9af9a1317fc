use Rattle.cord_shell.proofs.words.request_of.Goals as goal

pub returns-clause-unplanned : goal.returns-clause-unplanned
returns-clause-unplanned c = c.is_set.ensures

pub returns-clause-show_plan : goal.returns-clause-show_plan
returns-clause-show_plan c = c.is_set-2.ensures
