use Rattle.cord_plan.proofs.Common.{ArePartly, room}
use Rattle.cord_plan.proofs.flow.liveness.Flow.live_words.Given as goal

abbrev pub invariant-sweeps : goal.invariant-sweeps
invariant-sweeps l = ArePartly l.self.statements.now l.self.numbering.now l.self.group l.words.items

abbrev pub decreases-sweeps : goal.decreases-sweeps
decreases-sweeps l = room l.words.items
