-- The texts of faults.
use Rattle.std.specs.Prelude.{ℕ, List, codes}
use Rattle.cord_meaning.specs.declared.ends.FaultKind.{FaultKind}
use Rattle.cord_meaning.specs.declared.ends.FaultKind.TheVariants.{Negative, BadByte, OutOfRange, NoFile, TooLong, Overflow, TooManyTurns}

-- what the program prints for each kind of fault
abbrev pub text_of : FaultKind → List ℕ
text_of Negative = codes "negative number"
text_of BadByte = codes "byte out of range"
text_of OutOfRange = codes "index out of range"
text_of NoFile = codes "no such file"
text_of TooLong = codes "too long"
text_of Overflow = codes "overflow"
text_of TooManyTurns = codes "too many turns"
