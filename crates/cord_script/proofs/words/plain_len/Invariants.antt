use Rattle.cord_script.proofs.Common.{take, All, IsPlainByte}
use Rattle.cord_script.proofs.words.plain_len.Given as goal

abbrev pub invariant-loop-i : goal.invariant-loop-i
invariant-loop-i l = All IsPlainByte (take l.i l.line)
