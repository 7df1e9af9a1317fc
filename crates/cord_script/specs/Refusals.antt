-- The numbers and texts of the kinds of refusal.
use Rattle.std.specs.Prelude.{ℕ, List, codes}
use Rattle.cord_script.specs.declared.refusals.RefusalKind.{RefusalKind}
use Rattle.cord_script.specs.declared.refusals.RefusalKind.TheVariants.{TooBig, Unterminated, BadEscape, UnknownStatement, WrongCount}
use Rattle.cord_script.specs.declared.refusals.RefusalKind.TheVariants.{BadName, BadNumber, UnknownName, WrongKind, BadFormat, TooDeep}
use Rattle.cord_script.specs.declared.refusals.RefusalKind.TheVariants.{EndAlone, MissingEnd, TooMany, LiteralTooLong, NoMemory, ElseAlone}
use Rattle.cord_script.specs.declared.refusals.RefusalKind.TheVariants.{MissingIfEnd}

-- the number of a kind
abbrev pub code_of : RefusalKind → ℕ
code_of TooBig = 1
code_of Unterminated = 2
code_of BadEscape = 3
code_of UnknownStatement = 4
code_of WrongCount = 5
code_of BadName = 6
code_of BadNumber = 7
code_of UnknownName = 8
code_of WrongKind = 9
code_of BadFormat = 10
code_of TooDeep = 11
code_of EndAlone = 12
code_of MissingEnd = 13
code_of TooMany = 14
code_of LiteralTooLong = 15
code_of NoMemory = 16
code_of ElseAlone = 17
code_of MissingIfEnd = 18

-- the text of a kind
abbrev pub text_of : RefusalKind → List ℕ
text_of TooBig = codes "script too big"
text_of Unterminated = codes "quote not closed"
text_of BadEscape = codes "bad escape"
text_of UnknownStatement = codes "unknown statement"
text_of WrongCount = codes "wrong number of words"
text_of BadName = codes "bad name"
text_of BadNumber = codes "bad number"
text_of UnknownName = codes "unknown name"
text_of WrongKind = codes "wrong kind"
text_of BadFormat = codes "bad format"
text_of TooDeep = codes "loops too deep"
text_of EndAlone = codes "end without repeat"
text_of MissingEnd = codes "repeat without end"
text_of TooMany = codes "too many"
text_of LiteralTooLong = codes "text too long"
text_of NoMemory = codes "no memory"
text_of ElseAlone = codes "else without if"
text_of MissingIfEnd = codes "if without end"
