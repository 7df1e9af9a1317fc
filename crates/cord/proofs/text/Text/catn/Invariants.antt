use Rattle.std.proofs.Common.{drop}
use Rattle.cord.proofs.Catting.{IsCatting}
use Rattle.cord.proofs.text.Text.catn.Given as goal

-- the bytes so far and those of the other texts are the whole
abbrev pub invariant-loop-text : goal.invariant-loop-text
invariant-loop-text l = IsCatting l.texts (drop l.text-index l.texts) l.all
