use Rattle.cord_lines.proofs.Common.{take, total_by, ◌≡◌}
use Rattle.cord_lines.proofs.blocks.sum_of.Given as goal

abbrev pub invariant-loop-part : goal.invariant-loop-part
invariant-loop-part g l = l.sum ≡ total_by g.T.Counted.part (take l.part-index l.parts)
