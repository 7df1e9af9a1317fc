use Rattle.cord_plan.proofs.Words.{after_bits}
use Rattle.cord_plan.proofs.flow.liveness.successor_word.Goals as goal

pub returns-in-Some : goal.returns-in-Some
returns-in-Some c = λ i. after_bits _ _ _ _ _ _ _ c.in-Some.is (c.word_at-first.ensures.bits i) (c.word_at.ensures.bits i)
