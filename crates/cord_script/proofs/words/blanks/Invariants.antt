use Rattle.cord_script.proofs.Common.{take, All, IsBlank}
use Rattle.cord_script.proofs.words.blanks.Given as goal

abbrev pub invariant-loop-i : goal.invariant-loop-i
invariant-loop-i l = All IsBlank (take l.i l.line)
