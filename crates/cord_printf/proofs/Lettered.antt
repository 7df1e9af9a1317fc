-- From the parts of a conversion to its piece, and back.
use Rattle.std.proofs.Common.{◌≡◌, ◌≤◌, ◌==◌, ℕ, List, [], ◌∷◌, Option, Some, None, if◌then◌else◌, length, refl, sym, ap, ◌∙◌, subst, inl}
use Rattle.std.proofs.Common.{inr, arith}
use Rattle.std.specs.Prelude.{All}
use Rattle.std.proofs.lemmas.List.Elements.{All-head, All-tail}
use Rattle.cord_printf.specs.declared.TheConstants.{MAX_WIDTH}
use Rattle.cord_printf.specs.declared.pieces.Flags.{Flags}
use Rattle.cord_printf.specs.declared.pieces.Radix.TheVariants.{Decimal, Octal, LowerHex, UpperHex}
use Rattle.cord_printf.specs.declared.pieces.Piece.{Piece}
use Rattle.cord_printf.specs.declared.pieces.Piece.TheVariants.{Text, Signed, Unsigned, Byte, Cord, Percent}
use Rattle.cord_printf.specs.Pieces.{IsMark, IsDigit, StartsNo, IsPoint, IsModifier, Conversion, Spells, number_of, flags_of, HasWidth}
use Rattle.cord_printf.specs.inner.Reading.{IsLettered, IsNoLetter, IsAllowedSpelling}
use Rattle.cord_printf.proofs.Spelled.{IsLong}

modifier_of : (m : List ℕ) → All IsLong m → length m ≤ 2 → IsModifier m
modifier_of [] h few = inl refl
modifier_of (a ∷ []) h few = inr (inl (ap (λ x. x ∷ []) (All-head IsLong a [] h)))
modifier_of (a ∷ b ∷ []) h few =
    let one : a ≡ 108 = All-head IsLong a (b ∷ []) h in
    let two : b ≡ 108 = All-head IsLong b [] (All-tail IsLong a (b ∷ []) h) in
    inr (inr (cc (one, two)))
modifier_of (a ∷ b ∷ d ∷ m) h few = absurd (omega arith)

short_modifier : (m : List ℕ) → IsModifier m → length m ≤ 2
short_modifier m (inl e) = omega (arith, ap length e)
short_modifier m (inr (inl e)) = omega (arith, ap length e)
short_modifier m (inr (inr e)) = omega (arith, ap length e)

-- the parts that are read
pub record HasParts (c : Conversion) (precision : Option ℕ) : Type 0 where
  pub marks : All IsMark c.marks
  pub digits : All IsDigit c.digits
  pub no_zero : StartsNo (λ b. b ≡ 48) c.digits
  pub small : number_of c.digits ≤ MAX_WIDTH
  pub point : IsPoint c.point precision
  pub modifier : All IsLong c.modifier

has_width : (c : Conversion) (precision : Option ℕ) (flags : Flags) (width : ℕ) → HasParts c precision → flags ≡ flags_of c.marks →
    width ≡ number_of c.digits → HasWidth c flags width
has_width c precision flags width h f w = record {
  marks = h.marks;
  flags_are = f;
  digits = h.digits;
  no_zero = h.no_zero;
  width_is = w;
  small = omega (arith, w, h.small);
}

-- a letter with parts that it may have spells its piece
pub spells_of : (c : Conversion) (precision : Option ℕ) (p : Piece) → HasParts c precision →
    IsLettered c.letter (flags_of c.marks) (number_of c.digits) precision p → IsAllowedSpelling p c.marks c.digits c.point c.modifier → Spells c p
spells_of c precision (Text t) h l a = a
spells_of c precision (Signed f w p) h l a = (
  has_width c precision f w h l.0 l.1,
  subst (IsPoint c.point) (sym l.2) h.point,
  modifier_of c.modifier h.modifier a,
  l.3,
)
spells_of c precision (Unsigned r f w p) h l a = (
  has_width c precision f w h l.0 l.1,
  subst (IsPoint c.point) (sym l.2) h.point,
  modifier_of c.modifier h.modifier a.1,
  l.3,
  a.0,
)
spells_of c precision (Byte f w) h l a = (has_width c precision f w h l.0 l.1, a.2, a.3, l.2, a.0, a.1)
spells_of c precision (Cord f w p) h l a = (
  has_width c precision f w h l.0 l.1,
  subst (IsPoint c.point) (sym l.2) h.point,
  a.2,
  l.3,
  a.0,
  a.1,
)
spells_of c precision Percent h l a = (a.0, a.1, a.2, a.3, l)

-- one precision stands after a point
point-unique : (point : List ℕ) (p q : Option ℕ) → IsPoint point p → IsPoint point q → p ≡ q
point-unique point None None h k = refl
point-unique point None (Some q) h k = absurd (cc (h, k.1))
point-unique point (Some p) None h k = absurd (cc (h.1, k))
point-unique point (Some p) (Some q) h k =
    let same : h.0 ≡ k.0 = cc (h.1, k.1) in
    ap (λ x. Some x) (h.3 ∙ ap number_of same ∙ sym k.3)

-- what a spelled conversion's letter, flags, width and precision are
pub lettered_of : (c : Conversion) (precision : Option ℕ) (p : Piece) → IsPoint c.point precision → Spells c p →
    IsLettered c.letter (flags_of c.marks) (number_of c.digits) precision p
lettered_of c precision (Text t) h s = s
lettered_of c precision (Signed f w p) h s = (s.0.flags_are, s.0.width_is, point-unique c.point p precision s.1 h, s.3)
lettered_of c precision (Unsigned r f w p) h s = (s.0.flags_are, s.0.width_is, point-unique c.point p precision s.1 h, s.3)
lettered_of c precision (Byte f w) h s = (s.0.flags_are, s.0.width_is, s.3)
lettered_of c precision (Cord f w p) h s = (s.0.flags_are, s.0.width_is, point-unique c.point p precision s.1 h, s.3)
lettered_of c precision Percent h s = s.4

pub point_of : (c : Conversion) (p : Piece) → Spells c p → (precision : Option ℕ) × IsPoint c.point precision
point_of c (Text t) s = absurd s
point_of c (Signed f w p) s = (p, s.1)
point_of c (Unsigned r f w p) s = (p, s.1)
point_of c (Byte f w) s = (None, s.1)
point_of c (Cord f w p) s = (p, s.1)
point_of c Percent s = (None, s.2)

pub small_width : (c : Conversion) (p : Piece) → Spells c p → number_of c.digits ≤ MAX_WIDTH
small_width c (Text t) s = absurd s
small_width c (Signed f w p) s = omega (arith, s.0.small, s.0.width_is)
small_width c (Unsigned r f w p) s = omega (arith, s.0.small, s.0.width_is)
small_width c (Byte f w) s = omega (arith, s.0.small, s.0.width_is)
small_width c (Cord f w p) s = omega (arith, s.0.small, s.0.width_is)
small_width c Percent s = omega (arith, ap number_of s.1)

pub allowed_of : (c : Conversion) (p : Piece) → Spells c p → IsAllowedSpelling p c.marks c.digits c.point c.modifier
allowed_of c (Text t) s = s
allowed_of c (Signed f w p) s = short_modifier c.modifier s.2
allowed_of c (Unsigned r f w p) s = (s.4, short_modifier c.modifier s.2)
allowed_of c (Byte f w) s = (s.4, s.5, s.1, s.2)
allowed_of c (Cord f w p) s = (s.4, s.5, s.2)
allowed_of c Percent s = (s.0, s.1, s.2, s.3)

pub some_letter : (letter width : ℕ) (flags : Flags) (precision : Option ℕ) (p : Piece) → IsLettered letter flags width precision p →
    ¬ IsNoLetter letter
some_letter letter width flags precision (Text t) l n = l
some_letter letter width flags precision (Signed f w p) (a, b, d, inl e) n = n.0 e
some_letter letter width flags precision (Signed f w p) (a, b, d, inr e) n = n.1 e
some_letter letter width flags precision (Unsigned Decimal f w p) l n = n.2 l.3
some_letter letter width flags precision (Unsigned Octal f w p) l n = n.3 l.3
some_letter letter width flags precision (Unsigned LowerHex f w p) l n = n.4 l.3
some_letter letter width flags precision (Unsigned UpperHex f w p) l n = n.5 l.3
some_letter letter width flags precision (Byte f w) l n = n.6 l.2
some_letter letter width flags precision (Cord f w p) (a, b, d, inl e) n = n.7 e
some_letter letter width flags precision (Cord f w p) (a, b, d, inr e) n = n.8 e
some_letter letter width flags precision Percent l n = n.9 l

-- the piece of a letter, as a function
by_letter : ℕ → Flags → ℕ → Option ℕ → Option Piece
by_letter letter flags width precision =
    if letter == 100 then Some (Signed flags width precision)
    else if letter == 105 then Some (Signed flags width precision)
    else if letter == 117 then Some (Unsigned Decimal flags width precision)
    else if letter == 111 then Some (Unsigned Octal flags width precision)
    else if letter == 120 then Some (Unsigned LowerHex flags width precision)
    else if letter == 88 then Some (Unsigned UpperHex flags width precision)
    else if letter == 99 then Some (Byte flags width)
    else if letter == 115 then Some (Cord flags width precision)
    else if letter == 114 then Some (Cord flags width precision)
    else if letter == 37 then Some Percent
    else None

lettered-is : (letter width : ℕ) (flags : Flags) (precision : Option ℕ) (p : Piece) → IsLettered letter flags width precision p →
    by_letter letter flags width precision ≡ Some p
unfolding by_letter
lettered-is letter width flags precision (Text t) l = absurd l
lettered-is letter width flags precision (Signed f w p) (a, b, d, inl e) = rw (e, a, b, d)
lettered-is letter width flags precision (Signed f w p) (a, b, d, inr e) = rw (e, a, b, d)
lettered-is letter width flags precision (Unsigned Decimal f w p) (a, b, d, e) = rw (e, a, b, d)
lettered-is letter width flags precision (Unsigned Octal f w p) (a, b, d, e) = rw (e, a, b, d)
lettered-is letter width flags precision (Unsigned LowerHex f w p) (a, b, d, e) = rw (e, a, b, d)
lettered-is letter width flags precision (Unsigned UpperHex f w p) (a, b, d, e) = rw (e, a, b, d)
lettered-is letter width flags precision (Byte f w) (a, b, e) = rw (e, a, b)
lettered-is letter width flags precision (Cord f w p) (a, b, d, inl e) = rw (e, a, b, d)
lettered-is letter width flags precision (Cord f w p) (a, b, d, inr e) = rw (e, a, b, d)
lettered-is letter width flags precision Percent e = rw e

-- a letter stands for one piece
pub lettered-unique : (letter width : ℕ) (flags : Flags) (precision : Option ℕ) (p q : Piece) → IsLettered letter flags width precision p →
    IsLettered letter flags width precision q → p ≡ q
lettered-unique letter width flags precision p q h k =
    let one = lettered-is letter width flags precision p h in
    let two = lettered-is letter width flags precision q k in
    cc (one, two)
