use Rattle.cord_meaning.proofs.Common.{shape_of}
use Rattle.cord_meaning.proofs.Leading.{leading}
use Rattle.cord_meaning.proofs.laws.paths_follow_blocks.Goals as goal

pub returns-clause-no_more : goal.returns-clause-no_more
returns-clause-no_more c = λ parts p q well next. (leading shape_of parts well p).no_more q next

pub returns-clause-no_less : goal.returns-clause-no_less
returns-clause-no_less c = λ parts p q well among. (leading shape_of parts well p).no_less q among
