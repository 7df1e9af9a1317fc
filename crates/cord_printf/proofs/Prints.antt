-- One piece more of a print.
use Rattle.std.proofs.Common.{◌≡◌, ℕ, ◌+◌, ◌-◌, ◌<◌, ◌≤◌, min, length-append, append-nil, Option, Some, None, List, [], ◌∷◌, ◌++◌, length}
use Rattle.std.proofs.Common.{map, get_or, drop, add-one, refl, sym, ap, ◌∙◌, subst, arith}
use Rattle.std.proofs.Math.Seq.{drop-cons}
use Rattle.std.proofs.lemmas.List.{length-map, drop_all}
use Rattle.std.specs.Prelude.{option_to_list}
use Rattle.cord_node.specs.Tree.{Cell, known}
use Rattle.cord_printf.specs.declared.pieces.ArgKind.{ArgKind}
use Rattle.cord_printf.specs.declared.pieces.Piece.{Piece}
use Rattle.cord_printf.specs.Pieces.{wants, wanted}
use Rattle.cord_printf.specs.PieceText.{PieceArgument, kind_of, argument_if, others_if, count_if, piece_text, printed, refusal}
use Rattle.cord_printf.specs.PieceText.{first_refusal, first_of}
use Rattle.cord_printf.specs.Printing.{argument_of, arguments_of, AreWanted}
use Rattle.cord_printf.specs.declared.arguments.Arg.{Arg}

-- the arguments that are left are wanted by the pieces that are left, and one is gone where one was taken
taken_kind : (k : Option ArgKind) (kinds : List ArgKind) (args : List (PieceArgument Cell)) → map kind_of args ≡ option_to_list k ++ kinds
    → record { wanted_are : map kind_of (others_if k args) ≡ kinds; one_less : length (others_if k args) + count_if k ≡ length args }
taken_kind None kinds args h = record { wanted_are = h; one_less = omega arith }
taken_kind (Some k) kinds [] h = absurd (cc h)
taken_kind (Some k) kinds (a ∷ args) h = record { wanted_are = cc h; one_less = omega arith }

-- what holds of the pieces that are left, and of those after the next
record IsNext (place : ℕ) (p : Piece) (left after : List Piece) (args others : List (PieceArgument Cell)) (shown : List Cell) : Type 0 where
  pub wanted_are : AreWanted after others
  pub one_less : length others + count_if (wants p) ≡ length args
  pub text : printed known left args ≡ shown ++ printed known after others
  pub refused : first_refusal place left args ≡ first_refusal (place + count_if (wants p)) after others

next_of : (place : ℕ) (p : Piece) (after : List Piece) (args : List (PieceArgument Cell)) →
    refusal place p (argument_if (wants p) args) ≡ None → AreWanted (p ∷ after) args
    → IsNext place p (p ∷ after) after args (others_if (wants p) args) (piece_text known p (argument_if (wants p) args))
next_of place p after args none are =
    let kinds = taken_kind (wants p) (wanted after) args are in
    record {
      wanted_are = kinds.wanted_are;
      one_less = kinds.one_less;
      text = refl;
      refused = ap (λ r. first_of r (first_refusal (place + count_if (wants p)) after (others_if (wants p) args))) none;
    }

-- the first of the pieces from a place on
pub piece_at : (pieces : List Piece) (i : ℕ) (p : Piece) → i < length pieces → p ≡ get_or pieces i p →
    drop i pieces ≡ p ∷ drop (i + 1) pieces
piece_at pieces i p h e = drop-cons pieces i p h ∙ rw (← e, ← add-one i) refl

next : (place : ℕ) (pieces : List Piece) (i : ℕ) (p : Piece) (args others : List (PieceArgument Cell)) (a : Option (PieceArgument Cell))
    (shown : List Cell) → i < length pieces → p ≡ get_or pieces i p
    → a ≡ argument_if (wants p) args → others ≡ others_if (wants p) args → shown ≡ piece_text known p a → refusal place p a ≡ None →
    AreWanted (drop i pieces) args
    → IsNext place p (drop i pieces) (drop (i + 1) pieces) args others shown
next place pieces i p args others a shown within is taken left text none are =
    let first = piece_at pieces i p within is in
    let one = next_of place p (drop (i + 1) pieces) args (subst (λ x. refusal place p x ≡ None) taken none)
    (subst (λ x. AreWanted x args) first are) in
    rw (first, left, text, taken) one

-- lengths are counted up to a greatest number
pub counted_more : (most total total' len : ℕ) (shown after left : List Cell) (all : ℕ) → left ≡ shown ++ after →
    len ≡ min (length shown) most → total' ≡ min (total + len) most
    → min (total + length left) most ≡ all → min (total' + length after) most ≡ all
counted_more most total total' len shown after left all e l t h = omega (arith, ap length e, length-append shown after)

-- the place of the next argument
place_more : (all rest others count : ℕ) → others + count ≡ rest → rest ≤ all → all - rest + count ≡ all - others
place_more all rest others count e h = omega arith

-- what a loop over the pieces keeps, one piece further
pub record IsFurther (all rest others : List Arg) (left after : List Piece) (shown : List Cell) : Type 0 where
  pub wanted_are : AreWanted after (arguments_of others)
  pub fewer : length others ≤ length all
  pub text : printed known left (arguments_of rest) ≡ shown ++ printed known after (arguments_of others)
  pub refused : first_refusal (length all - length rest) left (arguments_of rest) ≡ first_refusal (length all - length others) after
      (arguments_of others)

pub further : (all rest others : List Arg) (pieces : List Piece) (i : ℕ) (p : Piece) (a : Option (PieceArgument Cell))
    (shown : List Cell) → i < length pieces → p ≡ get_or pieces i p
    → a ≡ argument_if (wants p) (arguments_of rest) → arguments_of others ≡ others_if (wants p) (arguments_of rest) →
    shown ≡ piece_text known p a → refusal (length all - length rest) p a ≡ None
    → AreWanted (drop i pieces) (arguments_of rest) → length rest ≤ length all
    → IsFurther all rest others (drop i pieces) (drop (i + 1) pieces) shown
further all rest others pieces i p a shown within is taken left text none are fewer =
    let step = next (length all - length rest) pieces i p (arguments_of rest) (arguments_of others) a shown within is taken left
    text none are in
    let less = sym (ap (λ n. n + count_if (wants p)) (length-map others argument_of)) ∙ step.one_less ∙ length-map rest argument_of in
    record {
      wanted_are = step.wanted_are;
      fewer = omega (arith, less, fewer);
      text = step.text;
      refused = step.refused ∙ ap (λ k. first_refusal k (drop (i + 1) pieces) (arguments_of others))
          (place_more (length all) (length rest) (length others) (count_if (wants p)) less fewer);
    }

-- no piece is left
pub all_written : (pieces : List Piece) (i : ℕ) (args : List (PieceArgument Cell)) (grown whole : List Cell) → length pieces ≤ i →
    grown ++ printed known (drop i pieces) args ≡ whole → grown ≡ whole
all_written pieces i args grown whole h e = sym (append-nil grown) ∙ ap (λ x. grown ++ printed known x args) (sym (drop_all i pieces h)) ∙ e

-- no piece is left, and what was counted lies below the greatest number
pub all_counted : (pieces : List Piece) (i : ℕ) (args : List (PieceArgument Cell)) (total whole most limit : ℕ) → length pieces ≤ i →
    min (total + length (printed known (drop i pieces) args)) most ≡ min whole most
    → total ≤ limit → limit < most → total ≡ whole
all_counted pieces i args total whole most limit h e fits below =
    let none : length (printed known (drop i pieces) args) ≡ 0 = ap (λ x. length (printed known x args)) (drop_all i pieces h) in
    omega (arith, none)
