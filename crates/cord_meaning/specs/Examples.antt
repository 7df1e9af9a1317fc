-- Scripts whose runs are computed, as they are read.
use Rattle.std.specs.Prelude.{ℕ, pos, negsuc, List, [], ◌∷◌, codes, true, false, Some, None}
use Rattle.cord_io.specs.Device.{FileSystem}
use Rattle.cord_printf.specs.declared.pieces.Flags.{Flags}
use Rattle.cord_printf.specs.declared.pieces.Radix.TheVariants.{Octal, LowerHex, UpperHex}
use Rattle.cord_printf.specs.declared.pieces.Piece.{Piece}
use Rattle.cord_printf.specs.declared.pieces.Piece.TheVariants.{Text, Signed, Unsigned, Byte, Cord, Percent}
use Rattle.cord_syntax.specs.declared.statements.Statement.{Statement}
use Rattle.cord_syntax.specs.declared.statements.Statement.TheVariants.{Let, File, Chars, Cat, Catn, Catc, Substr, Balance, EcToCord}
use Rattle.cord_syntax.specs.declared.statements.Statement.TheVariants.{Sprintf, Len, Fetch, Cmp, Ncmp, Str, Chr, Rchr, Assign, Add, EcInit}
use Rattle.cord_syntax.specs.declared.statements.Statement.TheVariants.{EcPut, EcStr, Put, Repeat, If, Else, End}
use Rattle.cord_operands.specs.declared.operands.Number.{Number}
use Rattle.cord_operands.specs.declared.operands.Number.TheVariants.{Numeral, Named}
use Rattle.cord_operands.specs.declared.operands.Argument.TheVariants as arguments
use Rattle.cord_operands.specs.declared.operands.Relation.TheVariants.{Equal, Greater}
use Rattle.cord_meaning.specs.Ends.{Counts}

-- a numeral of at least 0
abbrev pub numeral : ℕ → Number
numeral n = Numeral (pos n)

-- the numeral of -(n + 1)
abbrev pub below_zero : ℕ → Number
below_zero n = Numeral (negsuc n)

-- no flags, and each flag alone
abbrev pub no_flags : Flags
no_flags = record { left = false; zero = false; plus = false }

abbrev pub left_flag : Flags
left_flag = record no_flags { left = true }

abbrev pub zero_flag : Flags
zero_flag = record no_flags { zero = true }

abbrev pub plus_flag : Flags
plus_flag = record no_flags { plus = true }

-- `%d`
abbrev pub plain_number : Piece
plain_number = Signed no_flags 0 None

-- the text `|`
abbrev pub bar : Piece
bar = Text (codes "|")

-- `sprintf t "%d" n ; put t` on these lines: what an example prints of the number n
abbrev pub shows : ℕ → ℕ → List Statement
shows first second = Sprintf first (codes "t") (codes "%d") (plain_number ∷ []) (arguments.Number (Named (codes "n")) ∷ [])
    ∷ Put second (codes "t") ∷ []

-- `let x "hello" ; put x`
abbrev pub hello : List Statement
hello = Let 1 (codes "x") (codes "hello") ∷ Put 2 (codes "x") ∷ []

-- `let x "abcdef" ; substr y x 4 10 ; put y ; substr y x 6 1 ; put y`
abbrev pub substr_past_end : List Statement
substr_past_end =
    Let 1 (codes "x") (codes "abcdef")
    ∷ Substr 2 (codes "y") (codes "x") (numeral 4) (numeral 10)
    ∷ Put 3 (codes "y")
    ∷ Substr 4 (codes "y") (codes "x") (numeral 6) (numeral 1)
    ∷ Put 5 (codes "y")
    ∷ []

-- `let x "ab" ; put x ; fetch n x 2`
abbrev pub fetch_past_end : List Statement
fetch_past_end =
    Let 1 (codes "x") (codes "ab")
    ∷ Put 2 (codes "x")
    ∷ Fetch 3 (codes "n") (codes "x") (numeral 2)
    ∷ []

-- `let x "" ; repeat 3 ; put x ; catc x x 65 ; end`
abbrev pub loop_reads_next_turn : List Statement
loop_reads_next_turn =
    Let 1 (codes "x") []
    ∷ Repeat 2 (numeral 3)
    ∷ Put 3 (codes "x")
    ∷ Catc 4 (codes "x") (codes "x") (numeral 65)
    ∷ End 5
    ∷ []

-- `repeat 0 ; let x "a" ; end ; put x`
abbrev pub repeat_zero : List Statement
repeat_zero =
    Repeat 1 (numeral 0)
    ∷ Let 2 (codes "x") (codes "a")
    ∷ End 3
    ∷ Put 4 (codes "x")
    ∷ []

-- `set n 2 ; repeat n ; set n 5 ; let x "a" ; put x ; end`
abbrev pub repeat_count_read_once : List Statement
repeat_count_read_once =
    Assign 1 (codes "n") (numeral 2)
    ∷ Repeat 2 (Named (codes "n"))
    ∷ Assign 3 (codes "n") (numeral 5)
    ∷ Let 4 (codes "x") (codes "a")
    ∷ Put 5 (codes "x")
    ∷ End 6
    ∷ []

-- `let a "a" ; let b "b" ; cat t a b ; let a "z" ; substr z t 0 2 ; put z`
abbrev pub operand_assigned_between : List Statement
operand_assigned_between =
    Let 1 (codes "a") (codes "a")
    ∷ Let 2 (codes "b") (codes "b")
    ∷ Cat 3 (codes "t") (codes "a") (codes "b")
    ∷ Let 4 (codes "a") (codes "z")
    ∷ Substr 5 (codes "z") (codes "t") (numeral 0) (numeral 2)
    ∷ Put 6 (codes "z")
    ∷ []

-- `set n 9223372036854775807 ; add n n 1`
abbrev pub add_overflows : List Statement
add_overflows =
    Assign 1 (codes "n") (numeral 9223372036854775807)
    ∷ Add 2 (codes "n") (Named (codes "n")) (numeral 1)
    ∷ []

-- `let x "a" ; len n x ; if n eq 1 ; let x "b" ; else ; let x "c" ; end ; put x`
abbrev pub if_else_both_assign : List Statement
if_else_both_assign =
    Let 1 (codes "x") (codes "a")
    ∷ Len 2 (codes "n") (codes "x")
    ∷ If 3 (Named (codes "n")) Equal (numeral 1)
    ∷ Let 4 (codes "x") (codes "b")
    ∷ Else 5
    ∷ Let 6 (codes "x") (codes "c")
    ∷ End 7
    ∷ Put 8 (codes "x")
    ∷ []

-- `let x "a" ; len n x ; if n gt 1 ; let x "b" ; end ; put x`
abbrev pub if_without_else_keeps : List Statement
if_without_else_keeps =
    Let 1 (codes "x") (codes "a")
    ∷ Len 2 (codes "n") (codes "x")
    ∷ If 3 (Named (codes "n")) Greater (numeral 1)
    ∷ Let 4 (codes "x") (codes "b")
    ∷ End 5
    ∷ Put 6 (codes "x")
    ∷ []

-- `chars a 256 1`
abbrev pub chars_byte_too_great : List Statement
chars_byte_too_great = Chars 1 (codes "a") (numeral 256) (numeral 1) ∷ []

-- `let x "ab" ; substr y x -1 2`
abbrev pub substr_negative_index : List Statement
substr_negative_index = Let 1 (codes "x") (codes "ab") ∷ Substr 2 (codes "y") (codes "x") (below_zero 0) (numeral 2) ∷ []

-- `let a "a" ; let b "b" ; catn z a b a ; catc z z 33 ; balance y z ; put y`
abbrev pub catn_catc_balance : List Statement
catn_catc_balance =
    Let 1 (codes "a") (codes "a")
    ∷ Let 2 (codes "b") (codes "b")
    ∷ Catn 3 (codes "z") (codes "a" ∷ codes "b" ∷ codes "a" ∷ [])
    ∷ Catc 4 (codes "z") (codes "z") (numeral 33)
    ∷ Balance 5 (codes "y") (codes "z")
    ∷ Put 6 (codes "y")
    ∷ []

-- `ecinit e ; ecstr e "ab" ; ecput e 67 ; ectocord z e ; ecput e 68 ; put z ; ectocord y e ; put y`
abbrev pub ec_statements : List Statement
ec_statements =
    EcInit 1 (codes "e")
    ∷ EcStr 2 (codes "e") (codes "ab")
    ∷ EcPut 3 (codes "e") (numeral 67)
    ∷ EcToCord 4 (codes "z") (codes "e")
    ∷ EcPut 5 (codes "e") (numeral 68)
    ∷ Put 6 (codes "z")
    ∷ EcToCord 7 (codes "y") (codes "e")
    ∷ Put 8 (codes "y")
    ∷ []

-- `let a "a" ; put a ; file x "none" ; put a`
abbrev pub dead_file_missing : List Statement
dead_file_missing =
    Let 1 (codes "a") (codes "a")
    ∷ Put 2 (codes "a")
    ∷ File 3 (codes "x") (codes "none")
    ∷ Put 4 (codes "a")
    ∷ []

-- `file x "p" ; put x ; put x`
abbrev pub file_twice : List Statement
file_twice = File 1 (codes "x") (codes "p") ∷ Put 2 (codes "x") ∷ Put 3 (codes "x") ∷ []

-- a file "p" that holds `line` and byte 10
abbrev pub one_file : FileSystem
one_file = (codes "p", codes "line\n") ∷ []

-- `chars a 65 2 ; cat a a a`
abbrev pub four_bytes : List Statement
four_bytes = Chars 1 (codes "a") (numeral 65) (numeral 2) ∷ Cat 2 (codes "a") (codes "a") (codes "a") ∷ []

-- `str n x i s` in "ababc", and the number n
abbrev pub found_in_joined : List ℕ → ℕ → List Statement
found_in_joined s i =
    Let 1 (codes "p") (codes "ab")
    ∷ Let 2 (codes "q") (codes "c")
    ∷ Catn 3 (codes "x") (codes "p" ∷ codes "p" ∷ codes "q" ∷ [])
    ∷ Let 4 (codes "s") s
    ∷ Str 5 (codes "n") (codes "x") (numeral i) (codes "s")
    ∷ shows 6 7

-- `chars a 97 2 ; let b "ab" ; cat x a b ; let s "aab" ; str n x 0 s`, and the number n
abbrev pub str_over_seam : List Statement
str_over_seam =
    Chars 1 (codes "a") (numeral 97) (numeral 2)
    ∷ Let 2 (codes "b") (codes "ab")
    ∷ Cat 3 (codes "x") (codes "a") (codes "b")
    ∷ Let 4 (codes "s") (codes "aab")
    ∷ Str 5 (codes "n") (codes "x") (numeral 0) (codes "s")
    ∷ shows 6 7

-- `let x "hello" ; rchr n x 4 108`, and the number n
abbrev pub rchr_from_end : List Statement
rchr_from_end = Let 1 (codes "x") (codes "hello") ∷ Rchr 2 (codes "n") (codes "x") (numeral 4) (numeral 108) ∷ shows 3 4

-- `let x "hello" ; chr n x i c`, and the number n
abbrev pub chr_in_hello : ℕ → ℕ → List Statement
chr_in_hello i c = Let 1 (codes "x") (codes "hello") ∷ Chr 2 (codes "n") (codes "x") (numeral i) (numeral c) ∷ shows 3 4

-- `let x ".." ; let y ".." ; cmp n x y`, and the number n
abbrev pub compared : List ℕ → List ℕ → List Statement
compared x y = Let 1 (codes "x") x ∷ Let 2 (codes "y") y ∷ Cmp 3 (codes "n") (codes "x") (codes "y") ∷ shows 4 5

-- `let x "abcx" ; let y "zabcy" ; ncmp n x 0 y 1 k`, and the number n
abbrev pub parts_compared : ℕ → List Statement
parts_compared k =
    Let 1 (codes "x") (codes "abcx")
    ∷ Let 2 (codes "y") (codes "zabcy")
    ∷ Ncmp 3 (codes "n") (codes "x") (numeral 0) (codes "y") (numeral 1) (numeral k)
    ∷ shows 4 5

-- `let h "hello" ; sprintf z "%5.2r|%-4d|%05d|%.0d|%%" h 7 -7 0 ; put z`
abbrev pub sprintf_pads : List Statement
sprintf_pads =
    Let 1 (codes "h") (codes "hello")
    ∷ Sprintf 2 (codes "z") (codes "%5.2r|%-4d|%05d|%.0d|%%") (Cord no_flags 5 (Some 2) ∷ bar ∷ Signed left_flag 4 None ∷ bar
    ∷ Signed zero_flag 5 None ∷ bar ∷ Signed no_flags 0 (Some 0) ∷ bar ∷ Percent ∷ [])
    (arguments.Cord (codes "h") ∷ arguments.Number (numeral 7) ∷ arguments.Number (below_zero 6) ∷ arguments.Number (numeral 0) ∷ [])
    ∷ Put 3 (codes "z")
    ∷ []

-- `sprintf z "%08x|%+d|%o|%X|%c" 255 5 8 255 65 ; put z`
abbrev pub sprintf_numbers : List Statement
sprintf_numbers =
    Sprintf 1 (codes "z") (codes "%08x|%+d|%o|%X|%c") (Unsigned LowerHex zero_flag 8 None ∷ bar ∷ Signed plus_flag 0 None ∷ bar
    ∷ Unsigned Octal no_flags 0 None ∷ bar ∷ Unsigned UpperHex no_flags 0 None ∷ bar ∷ Byte no_flags 0 ∷ [])
    (arguments.Number (numeral 255) ∷ arguments.Number (numeral 5) ∷ arguments.Number (numeral 8) ∷ arguments.Number (numeral 255)
    ∷ arguments.Number (numeral 65) ∷ [])
    ∷ Put 2 (codes "z")
    ∷ []

-- `sprintf z "%x" -1`
abbrev pub sprintf_negative_hex : List Statement
sprintf_negative_hex = Sprintf 1 (codes "z") (codes "%x") (Unsigned LowerHex no_flags 0 None ∷ []) (arguments.Number (below_zero 0) ∷ [])
    ∷ []

-- `repeat n ; end`
abbrev pub empty_turns : ℕ → List Statement
empty_turns n = Repeat 1 (numeral n) ∷ End 2 ∷ []

-- the sink has finished, and nothing has failed
abbrev pub nothing_failed : Counts
nothing_failed = record {
  files_before = 0;
  files_after = 0;
  sink_before = 0;
  sink_after = 0;
  puts_before = 0;
  puts_after = 0;
  finished_before = 0;
  finished_after = 1;
}

-- a `put` has failed
abbrev pub sink_failed : Counts
sink_failed = record {
  files_before = 0;
  files_after = 0;
  sink_before = 0;
  sink_after = 1;
  puts_before = 0;
  puts_after = 1;
  finished_before = 0;
  finished_after = 0;
}
