-- The worked examples: each text is run through the proof that it is a script or has a first error.
use Rattle.std.specs.Prelude.{◌≡◌, ◌∷◌}
use Rattle.cord_script.proofs.Common.{inl, inr, Some, None, ℕ, List, [], refl, sym, subst, lit≤, arith, Option, codes, bytes_eq, same_Some}
use Rattle.cord_script.proofs.Common.{FormatOrBad, Conversion, HasWidth, Piece, flags_of, Statement, RefusalKind, ReadsBy, whole}
use Rattle.cord_script.proofs.Common.{FirstErrorBy}
use Rattle.cord_printf.specs.Format.{IsFormat}
use Rattle.cord_printf.specs.declared.pieces.Piece.TheVariants.{Signed}
use Rattle.cord_script.specs.Forms.{form_of}
use Rattle.cord_script.specs.Examples.{Examples}
use Rattle.cord_script.proofs.Spelled.{tested}
use Rattle.cord_script.proofs.Firsts.{same_bytes}
use Rattle.cord_script.proofs.Either.{Either, read_or_error}

abbrev script_in : {b : List ℕ} → Either whole b → Option (List Statement)
script_in (inl read) = Some read.0
script_in (inr wrong) = None

abbrev error_in : {b : List ℕ} → Either whole b → Option (ℕ × RefusalKind)
error_in (inl read) = None
error_in (inr wrong) = Some (wrong.0, wrong.1)

-- `%d` is one conversion
abbrev decimal : List Piece
decimal = Signed (flags_of []) 0 None ∷ []

is_decimal : IsFormat (codes "%d") decimal
is_decimal =
    let letters : Conversion = record { marks = []; digits = []; point = []; modifier = []; letter = 100 } in
    let width : HasWidth letters (flags_of []) 0 = record {
      marks = λ k d lt. absurd (omega arith);
      flags_are = refl;
      digits = λ k d lt. absurd (omega arith);
      no_zero = tt;
      width_is = refl;
      small = lit≤ tt;
    } in
    (codes "%d", [], refl, (letters, refl, (width, refl, inl refl, inl refl)), refl)

-- which pieces `%d` is, is computed
abbrev with_decimal : FormatOrBad → FormatOrBad
with_decimal law text = elim (tested (bytes_eq text (codes "%d")) (same_bytes text (codes "%d")) (λ other. other)) [
  | inl same ↦ inl (decimal, subst (λ t. IsFormat t decimal) (sym same) is_decimal)
  | inr other ↦ law text
]

-- what is found in a text
abbrev found : FormatOrBad → (b : List ℕ) → Either whole b
found law = read_or_error (with_decimal law) whole

script_by : {b : List ℕ} {ss : List Statement} (found : Either whole b) → script_in found ≡ Some ss → ReadsBy whole b ss
script_by {b} {ss} (inl read) is = subst (ReadsBy whole b) (same_Some read.0 ss is) read.1
script_by (inr wrong) is = cc

error_by : {b : List ℕ} {n : ℕ} {kind : RefusalKind} (found : Either whole b) → error_in found ≡ Some (n, kind) → FirstErrorBy whole b n kind
error_by (inl read) is = cc
error_by {b} {n} {kind} (inr wrong) is = subst (λ p. FirstErrorBy whole b p.0 p.1) (same_Some (wrong.0, wrong.1) (n, kind) is) wrong.2

error_of : (law : FormatOrBad) {b : List ℕ} {n : ℕ} {kind : RefusalKind} → error_in (found law b) ≡ Some (n, kind) → FirstErrorBy whole b n kind
error_of law {b} is = error_by (found law b) is

-- all examples
pub examples : FormatOrBad → Examples
unfolding form_of
examples law = record {
  hello = script_by (found law _) refl;
  unknown_name = error_of law refl;
  cat_one_operand = error_of law refl;
  put_two_words = error_of law refl;
  let_plain_word = error_of law refl;
  cat_of_itself_unknown = error_of law refl;
  chars_numeral_too_great = error_of law refl;
  end_alone = error_of law refl;
  else_alone = error_of law refl;
  if_bad_relation = error_of law refl;
  fetch_into_cord = error_of law refl;
  len_into_cord = error_of law refl;
  operand_before_target = error_of law refl;
  wrong_kind_before_unknown = error_of law refl;
  unknown_before_wrong_kind = error_of law refl;
  outer_repeat_open = error_of law refl;
  else_in_repeat = error_of law refl;
  else_twice = error_of law refl;
  if_open_round_repeat = error_of law refl;
  let_quote_open = error_of law refl;
  let_bad_escape = error_of law refl;
  sprintf_argument_missing = error_of law refl;
}
