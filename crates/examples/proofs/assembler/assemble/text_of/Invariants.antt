use Rattle.cord.proofs.Meanings.{Joined}
use Rattle.examples.specs.Meaning.{segment_bytes}
use Rattle.examples.proofs.assembler.assemble.text_of.Given as goal

abbrev pub invariant-loop-segment : goal.invariant-loop-segment
invariant-loop-segment g l = Joined (g.S.Source.lengths l.src) segment_bytes l.segments l.segment-index l.text
