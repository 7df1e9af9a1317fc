use Rattle.std.proofs.Common.{drop}
use Rattle.cord_core.proofs.Catting.{IsCatting}
use Rattle.cord_core.proofs.Cord.catn.Given as goal

-- the text so far and that of the others are the whole
abbrev pub invariant-loop-cord : goal.invariant-loop-cord
invariant-loop-cord l = IsCatting l.cords (drop l.cord-index l.cords) l.all
