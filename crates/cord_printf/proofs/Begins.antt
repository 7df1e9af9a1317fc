-- Whether a conversion begins, from the parts that were read.
use Rattle.std.proofs.Common.{◌≡◌, ◌≤◌, ◌<◌, ℕ, List, [], ◌∷◌, ◌++◌, Option, Some, None, refl, sym, ap, ◌∙◌, subst, inl, inr, arith}
use Rattle.std.specs.Prelude.{IfNone}
use Rattle.cord_printf.specs.declared.TheConstants.{MAX_WIDTH}
use Rattle.cord_printf.specs.declared.pieces.Flags.{Flags}
use Rattle.cord_printf.specs.declared.pieces.Piece.{Piece}
use Rattle.cord_printf.specs.Pieces.{IsMark, StartsNo, IsPoint, Conversion, Spells, number_of, flags_of}
use Rattle.cord_printf.specs.Format.{Converts, BeginsConversion}
use Rattle.cord_printf.specs.inner.Reading.{AreParts, IsLettered, IsNoLetter, IsAllowedSpelling}
use Rattle.cord_printf.proofs.Spans.{SameParts}
use Rattle.cord_printf.proofs.Spelled.{same_parts, spelling-append}
use Rattle.cord_printf.proofs.Lettered.{HasParts, spells_of, lettered_of, lettered-unique, point_of, small_width, allowed_of, some_letter}

pub none_of : {A P : Type 0} (r : Option A) → P → IfNone r P
none_of None h = h
none_of (Some x) h = tt

-- the conversion that begins there has the parts that were read
record Begun (b m d p l r : List ℕ) : Type 0 where
  pub conversion : Conversion
  pub piece : Piece
  pub rest : List ℕ
  pub spells : Spells conversion piece
  pub same : SameParts m d p l r conversion.marks conversion.digits conversion.point conversion.modifier (conversion.letter ∷ rest)

begun : (b m d p l r : List ℕ) → AreParts b m d p l r → BeginsConversion (37 ∷ b) → Begun b m d p l r
begun b m d p l r parts h = record {
  conversion = h.2.0;
  piece = h.0;
  rest = h.1;
  spells = h.2.1;
  same = same_parts b m d p l r h.1 h.2.0 h.0 parts h.2.1 h.2.2;
}

pub no_letter : (b m d p l r : List ℕ) → AreParts b m d p l r → r ≡ [] → ¬ BeginsConversion (37 ∷ b)
no_letter b m d p l r parts e h = let k = begun b m d p l r parts h in absurd (cc (e, k.same.rest))

pub no_width : (b m d p l r : List ℕ) → AreParts b m d p l r → MAX_WIDTH < number_of d → ¬ BeginsConversion (37 ∷ b)
no_width b m d p l r parts big h =
    let k = begun b m d p l r parts h in
    omega (arith, small_width k.conversion k.piece k.spells, ap number_of k.same.digits)

pub no_precision : (b m d p l r : List ℕ) → AreParts b m d p l r → ((precision : Option ℕ) → ¬ IsPoint p precision) →
    ¬ BeginsConversion (37 ∷ b)
no_precision b m d p l r parts none h =
    let k = begun b m d p l r parts h in
    let point = point_of k.conversion k.piece k.spells in
    none point.0 (subst (λ x. IsPoint x point.0) (sym k.same.point) point.1)

same_letter : (r rest more : List ℕ) (letter other : ℕ) → r ≡ letter ∷ rest → r ≡ other ∷ more → other ≡ letter
same_letter r rest more letter other e f = cc

pub no_piece : (b m d p l r rest : List ℕ) (letter : ℕ) → AreParts b m d p l r → r ≡ letter ∷ rest → IsNoLetter letter →
    ¬ BeginsConversion (37 ∷ b)
no_piece b m d p l r rest letter parts e none h =
    let k = begun b m d p l r parts h in
    let point = point_of k.conversion k.piece k.spells in
    let same = same_letter r rest k.rest letter k.conversion.letter e k.same.rest in
    some_letter k.conversion.letter (number_of k.conversion.digits) (flags_of k.conversion.marks) point.0 k.piece
    (lettered_of k.conversion point.0 k.piece point.1 k.spells) (subst IsNoLetter (sym same) none)

pub same_lettered : (letter width : ℕ) (flags : Flags) (l w : ℕ) (f : Flags) (precision : Option ℕ) (q : Piece) → letter ≡ l → flags ≡ f →
    width ≡ w → IsLettered l f w precision q → IsLettered letter flags width precision q
same_lettered letter width flags l w f precision q a b d h = rw (a, b, d) h

same_allowed : (q k : Piece) (m d p l n e s t : List ℕ) → k ≡ q → m ≡ n → d ≡ e → p ≡ s → l ≡ t → IsAllowedSpelling k n e s t → IsAllowedSpelling q m d p l
same_allowed q k m d p l n e s t a b x y z h = rw (← a, b, x, y, z) h

pub not_allowed : (b m d p l r rest : List ℕ) (letter width : ℕ) (flags : Flags) (precision : Option ℕ) (q : Piece) →
    AreParts b m d p l r → r ≡ letter ∷ rest → flags ≡ flags_of m → width ≡ number_of d → IsPoint p precision →
    IsLettered letter flags width precision q → ¬ IsAllowedSpelling q m d p l → ¬ BeginsConversion (37 ∷ b)
not_allowed b m d p l r rest letter width flags precision q parts e f w point lettered refused h =
    let k = begun b m d p l r parts h in
    let c : Conversion = k.conversion in
    let same = same_letter r rest k.rest letter c.letter e k.same.rest in
    let other : IsLettered c.letter (flags_of c.marks) (number_of c.digits) precision k.piece =
    lettered_of c precision k.piece (subst (λ x. IsPoint x precision) k.same.point point) k.spells in
    let mine : IsLettered c.letter (flags_of c.marks) (number_of c.digits) precision q =
    same_lettered c.letter (number_of c.digits) (flags_of c.marks) letter width flags precision q same
    (ap flags_of (sym k.same.marks) ∙ sym f) (ap number_of (sym k.same.digits) ∙ sym w) lettered in
    let pieces : k.piece ≡ q = lettered-unique c.letter (number_of c.digits) (flags_of c.marks) precision k.piece q other mine in
    refused (same_allowed q k.piece m d p l c.marks c.digits c.point c.modifier pieces k.same.marks k.same.digits k.same.point
    k.same.modifier (allowed_of c k.piece k.spells))

no_zero : (digits rest after : List ℕ) → after ≡ digits ++ rest → StartsNo IsMark after → StartsNo (λ b. b ≡ 48) digits
no_zero [] rest after e h = tt
no_zero (b ∷ digits) rest after e h = λ z. subst (StartsNo IsMark) e h (inr (inl z))

pub converts : (b m d p l r rest : List ℕ) (letter width : ℕ) (flags : Flags) (precision : Option ℕ) (q : Piece) → AreParts b m d p l r →
    r ≡ letter ∷ rest → flags ≡ flags_of m → (width ≡ number_of d) × (width ≤ MAX_WIDTH) → IsPoint p precision →
    IsLettered letter flags width precision q → IsAllowedSpelling q m d p l → Converts (37 ∷ b) q rest
converts b m d p l r rest letter width flags precision q parts e f w point lettered allowed =
    let c : Conversion = record { marks = m; digits = d; point = p; modifier = l; letter = letter } in
    let has : HasParts c precision = record {
      marks = parts.marks_all;
      digits = parts.digits_all;
      no_zero = no_zero d parts.after_digits parts.after_marks parts.digits_whole parts.marks_end;
      small = omega (arith, w);
      point = point;
      modifier = parts.modifier_all;
    } in
    let whole : b ≡ m ++ (d ++ (p ++ (l ++ letter ∷ rest))) =
    parts.marks_whole
    ∙ ap (λ x. m ++ x)
    (parts.digits_whole ∙ ap (λ x. d ++ x) (parts.dotted.0 ∙ ap (λ x. p ++ x) (parts.modifier_whole ∙ ap (λ x. l ++ x) e))) in (
      c,
      spells_of c precision q has (same_lettered letter (number_of d) (flags_of m) letter width flags precision q refl (sym f)
          (sym w.0) lettered) allowed,
      ap (λ x. 37 ∷ x) whole ∙ sym (spelling-append c rest),
    )
