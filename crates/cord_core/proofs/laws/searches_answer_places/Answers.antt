use Rattle.cord_core.proofs.Searches.{first_is_least, last_is_greatest, order_is}
use Rattle.cord_core.proofs.laws.searches_answer_places.Goals as goal

pub returns-clause-first : goal.returns-clause-first
returns-clause-first c = λ x i s. first_is_least x s i

pub returns-clause-last : goal.returns-clause-last
returns-clause-last c = λ x i b. last_is_greatest x b i

pub returns-clause-order : goal.returns-clause-order
returns-clause-order c = λ x y. order_is x y
