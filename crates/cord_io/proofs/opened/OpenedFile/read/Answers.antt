use Rattle.cord_io.proofs.opened.OpenedFile.read.Goals as goal

pub returns-in_err-count-clause-earlier : goal.returns-in_err-count-clause-earlier
returns-in_err-count-clause-earlier g c = λ file_system agrees. c.take_ahead.ensures.earlier file_system
    (c.ask_prefix.ensures.earlier file_system agrees)

pub returns-clause-earlier : goal.returns-clause-earlier
returns-clause-earlier g c = λ file_system agrees. c.take_ahead.ensures.earlier file_system
    (c.ask_prefix.ensures.earlier file_system agrees)
