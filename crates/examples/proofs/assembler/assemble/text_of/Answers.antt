use Rattle.cord.proofs.Meanings.{joined_none, joined_next, joined_all}
use Rattle.examples.proofs.assembler.assemble.text_of.Goals as goal

pub loop-segment-init : goal.loop-segment-init
loop-segment-init g c = joined_none c.empty-text.ensures

pub loop-segment-preserved : goal.loop-segment-preserved
loop-segment-preserved g c = joined_next _ c.loop-segment-test.true c.loop-segment.invariant c.in_ok-next.ensures c.in_ok-text.ensures.over

pub returns : goal.returns
returns g c = joined_all c.loop-segment-test.false c.loop-segment.invariant
