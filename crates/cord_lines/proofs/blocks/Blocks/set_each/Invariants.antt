use Rattle.cord_lines.proofs.Common.{replaced, take, ◌≡◌}
use Rattle.cord_lines.proofs.blocks.Blocks.set_each.Given as goal

abbrev pub invariant-loop-offset : goal.invariant-loop-offset
invariant-loop-offset l = l.self ≡ replaced l.initial.self l.start l.offset (take l.offset l.fresh)
