-- Worked examples of the grammar with all statements: what is read, and what is wrong first.
use Rattle.std.specs.Prelude.{ℕ, List, [], ◌∷◌, ◌++◌, codes}
use Rattle.cord_syntax.specs.declared.statements.Statement.TheVariants.{Let, Put}
use Rattle.cord_script.specs.declared.refusals.RefusalKind.TheVariants.{Unterminated, BadEscape, WrongCount, BadName, BadNumber}
use Rattle.cord_script.specs.declared.refusals.RefusalKind.TheVariants.{UnknownName, WrongKind, EndAlone, MissingEnd, ElseAlone}
use Rattle.cord_script.specs.declared.refusals.RefusalKind.TheVariants.{MissingIfEnd}
use Rattle.cord_script.specs.Script.{ReadsBy, whole}
use Rattle.cord_script.specs.FirstErrors.{FirstErrorBy}

-- a quoted word without escapes
abbrev pub quote : List ℕ → List ℕ
quote t = 34 ∷ t ++ 34 ∷ []

-- The examples under their names.
pub record Examples : Type 0 where
  pub hello : ReadsBy whole (codes "let x " ++ quote (codes "hello") ++ 10 ∷ codes "put x")
      (Let 1 (codes "x") (codes "hello") ∷ Put 2 (codes "x") ∷ [])
  pub unknown_name : FirstErrorBy whole (codes "put x") 1 UnknownName
  pub cat_one_operand : FirstErrorBy whole (codes "cat z x") 1 WrongCount
  pub put_two_words : FirstErrorBy whole (codes "put x y") 1 WrongCount
  pub let_plain_word : FirstErrorBy whole (codes "let x a") 1 WrongKind
  pub cat_of_itself_unknown : FirstErrorBy whole (codes "cat x x x") 1 UnknownName
  pub chars_numeral_too_great : FirstErrorBy whole (codes "chars a 0 99999999999999999999") 1 BadNumber
  pub end_alone : FirstErrorBy whole (codes "end") 1 EndAlone
  pub else_alone : FirstErrorBy whole (codes "else") 1 ElseAlone
  pub if_bad_relation : FirstErrorBy whole (codes "if 1 ne 1" ++ 10 ∷ codes "end") 1 BadName
  pub fetch_into_cord : FirstErrorBy whole (codes "let x " ++ quote (codes "a") ++ 10 ∷ codes "fetch x x 0") 2 WrongKind
  pub len_into_cord : FirstErrorBy whole (codes "let x " ++ quote (codes "a") ++ 10 ∷ codes "len x x") 2 WrongKind
  pub operand_before_target : FirstErrorBy whole (codes "let x " ++ quote (codes "a") ++ 10 ∷ codes "len x y") 2 UnknownName
  pub wrong_kind_before_unknown : FirstErrorBy whole (codes "let x " ++ quote (codes "a") ++ 10 ∷ codes "add n x y") 2 WrongKind
  pub unknown_before_wrong_kind : FirstErrorBy whole (codes "let x " ++ quote (codes "a") ++ 10 ∷ codes "add n y x") 2 UnknownName
  pub outer_repeat_open : FirstErrorBy whole (codes "repeat 1" ++ 10 ∷ codes "repeat 1" ++ 10 ∷ codes "end") 1 MissingEnd
  pub else_in_repeat : FirstErrorBy whole (codes "repeat 1" ++ 10 ∷ codes "else" ++ 10 ∷ codes "end") 2 ElseAlone
  pub else_twice : FirstErrorBy whole (codes "if 1 eq 1" ++ 10 ∷ codes "else" ++ 10 ∷ codes "else" ++ 10 ∷ codes "end") 3 ElseAlone
  pub if_open_round_repeat : FirstErrorBy whole (codes "if 1 eq 1" ++ 10 ∷ codes "repeat 2" ++ 10 ∷ codes "end") 1 MissingIfEnd
  pub let_quote_open : FirstErrorBy whole (codes "let x " ++ 34 ∷ codes "a") 1 Unterminated
  pub let_bad_escape : FirstErrorBy whole (codes "let x " ++ quote (92 ∷ codes "q")) 1 BadEscape
  pub sprintf_argument_missing : FirstErrorBy whole (codes "sprintf z " ++ quote (codes "%d")) 1 WrongCount
