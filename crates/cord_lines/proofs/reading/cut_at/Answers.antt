use Rattle.cord_lines.proofs.Readings.{cut_is}
use Rattle.cord_lines.proofs.reading.cut_at.Goals as goal

pub returns-then-len-gt0 : goal.returns-then-len-gt0
returns-then-len-gt0 c = cut_is c.requires.held c.cut_chunk.ensures

pub returns-in-Some : goal.returns-in-Some
returns-in-Some c = cut_is c.in-Some.ensures.1 c.cut_chunk-in-Some.ensures
