-- What is written for a piece, read in its longest spans.
use Rattle.std.proofs.Common.{◌≡◌, ◌≢◌, ◌≤◌, ◌<◌, ℕ, List, [], ◌∷◌, ◌++◌, Option, Some, None, refl, sym, ◌∙◌, subst, inl, inr, ◌⊎◌}
use Rattle.std.proofs.Common.{append_assoc, arith}
use Rattle.std.specs.Prelude.{All}
use Rattle.std.proofs.lemmas.List.Elements.{All-head, All-nil, All-cons}
use Rattle.cord_printf.specs.declared.pieces.Flags.{Flags}
use Rattle.cord_printf.specs.declared.pieces.Radix.TheVariants.{Decimal, Octal, LowerHex, UpperHex}
use Rattle.cord_printf.specs.declared.pieces.Piece.{Piece}
use Rattle.cord_printf.specs.declared.pieces.Piece.TheVariants.{Text, Signed, Unsigned, Byte, Cord, Percent}
use Rattle.cord_printf.specs.Pieces.{IsMark, IsDigit, StartsNo, IsPoint, IsModifier, Conversion, spelling, Spells, HasWidth}
use Rattle.cord_printf.specs.inner.Reading.{AreParts, IsDotted, IsPointed}
use Rattle.cord_printf.proofs.Spans.{parts-unique, SameParts}

-- a byte that ends a conversion: none of the marks, digits, `.` and `l`
abbrev pub IsLast : ℕ → Type 0
IsLast b = (b ≡ 37) ⊎ ((57 < b) × (b < 108)) ⊎ (108 < b)

abbrev pub IsLong : ℕ → Type 0
IsLong b = b ≡ 108

-- what every conversion has
pub record IsSpelled (c : Conversion) : Type 0 where
  pub marks : All IsMark c.marks
  pub digits : All IsDigit c.digits
  pub no_zero : StartsNo (λ b. b ≡ 48) c.digits
  pub point : IsPointed c.point
  pub modifier : All IsLong c.modifier
  pub last : IsLast c.letter

pointed : (point : List ℕ) (precision : Option ℕ) → IsPoint point precision → IsPointed point
pointed point None h = inl h
pointed point (Some precision) h = inr (h.0, h.1, h.2)

no_longs : All IsLong []
no_longs = All-nil IsLong

one_long : (m : List ℕ) → All IsLong m → All IsLong (108 ∷ m)
one_long m h = All-cons IsLong 108 m refl h

longs : (m : List ℕ) → IsModifier m → All IsLong m
longs m (inl h) = subst (All IsLong) (sym h) no_longs
longs m (inr (inl h)) = subst (All IsLong) (sym h) (one_long [] no_longs)
longs m (inr (inr h)) = subst (All IsLong) (sym h) (one_long (108 ∷ []) (one_long [] no_longs))

spelled : (c : Conversion) (flags : Flags) (width : ℕ) → HasWidth c flags width → IsPointed c.point → All IsLong c.modifier →
    IsLast c.letter → IsSpelled c
spelled c flags width h point modifier last = record {
  marks = h.marks;
  digits = h.digits;
  no_zero = h.no_zero;
  point = point;
  modifier = modifier;
  last = last;
}

signed_last : (b : ℕ) → (b ≡ 100) ⊎ (b ≡ 105) → IsLast b
signed_last b (inl e) = inr (inl (omega arith, omega arith))
signed_last b (inr e) = inr (inl (omega arith, omega arith))

cord_last : (b : ℕ) → (b ≡ 115) ⊎ (b ≡ 114) → IsLast b
cord_last b (inl e) = inr (inr (omega arith))
cord_last b (inr e) = inr (inr (omega arith))

pub is_spelled : (c : Conversion) (p : Piece) → Spells c p → IsSpelled c
is_spelled c (Text t) h = absurd h
is_spelled c (Signed flags width precision) h = spelled c flags width h.0 (pointed c.point precision h.1) (longs c.modifier h.2)
    (signed_last c.letter h.3)
is_spelled c (Unsigned Decimal flags width precision) h = spelled c flags width h.0 (pointed c.point precision h.1) (longs c.modifier h.2)
    (inr (inr (omega (arith, h.3))))
is_spelled c (Unsigned Octal flags width precision) h = spelled c flags width h.0 (pointed c.point precision h.1) (longs c.modifier h.2)
    (inr (inr (omega (arith, h.3))))
is_spelled c (Unsigned LowerHex flags width precision) h = spelled c flags width h.0 (pointed c.point precision h.1) (longs c.modifier h.2)
    (inr (inr (omega (arith, h.3))))
is_spelled c (Unsigned UpperHex flags width precision) h = spelled c flags width h.0 (pointed c.point precision h.1) (longs c.modifier h.2)
    (inr (inl (omega (arith, h.3), omega (arith, h.3))))
is_spelled c (Byte flags width) h = spelled c flags width h.0 (inl h.1) (subst (All IsLong) (sym h.2) no_longs)
    (inr (inl (omega (arith, h.3), omega (arith, h.3))))
is_spelled c (Cord flags width precision) h = spelled c flags width h.0 (pointed c.point precision h.1)
    (subst (All IsLong) (sym h.2) no_longs) (cord_last c.letter h.3)
is_spelled c Percent h = record {
  marks = subst (All IsMark) (sym h.0) (All-nil IsMark);
  digits = subst (All IsDigit) (sym h.1) (All-nil IsDigit);
  no_zero = subst (StartsNo (λ b. b ≡ 48)) (sym h.1) tt;
  point = inl h.2;
  modifier = subst (All IsLong) (sym h.3) no_longs;
  last = inl h.4;
}

not_small : (b : ℕ) → IsLast b → 43 ≤ b → b ≤ 57 → ⊥
not_small b (inl e) low high = omega arith
not_small b (inr (inl h)) low high = omega arith
not_small b (inr (inr h)) low high = omega arith

not_mark : (b : ℕ) → IsLast b → ¬ IsMark b
not_mark b h (inl e) = not_small b h (omega arith) (omega arith)
not_mark b h (inr (inl e)) = not_small b h (omega arith) (omega arith)
not_mark b h (inr (inr e)) = not_small b h (omega arith) (omega arith)

pub not_mark_of : (b : ℕ) → b ≢ 45 → b ≢ 48 → b ≢ 43 → ¬ IsMark b
not_mark_of b x y z (inl e) = x e
not_mark_of b x y z (inr (inl e)) = y e
not_mark_of b x y z (inr (inr e)) = z e

not_digit : (b : ℕ) → IsLast b → ¬ IsDigit b
not_digit b h d = not_small b h (omega arith) (omega arith)

not_dot : (b : ℕ) → IsLast b → b ≢ 46
not_dot b h e = not_small b h (omega arith) (omega arith)

not_long : (b : ℕ) → IsLast b → b ≢ 108
not_long b (inl h) e = omega arith
not_long b (inr (inl h)) e = omega arith
not_long b (inr (inr h)) e = omega arith

-- what stands after the point starts with `l` or the letter
after_point : (P : ℕ → Type 0) (m rest : List ℕ) (letter : ℕ) → All IsLong m → ¬ P 108 → ¬ P letter → StartsNo P (m ++ letter ∷ rest)
after_point P [] rest letter all long last = last
after_point P (b ∷ m) rest letter all long last = λ p. long (subst P (All-head IsLong b m all) p)

-- after the digits it may start with `.` too
after_digits : (P : ℕ → Type 0) (point rest : List ℕ) → IsPointed point → ¬ P 46 → StartsNo P rest → StartsNo P (point ++ rest)
after_digits P point rest (inl e) dot h = subst (λ x. StartsNo P (x ++ rest)) (sym e) h
after_digits P point rest (inr k) dot h = subst (λ x. StartsNo P (x ++ rest)) (sym k.1) dot

-- after the marks with a digit that isn't 0
after_marks : (digits rest : List ℕ) → All IsDigit digits → StartsNo (λ b. b ≡ 48) digits → StartsNo IsMark rest →
    StartsNo IsMark (digits ++ rest)
after_marks [] rest all nz h = h
after_marks (b ∷ ds) rest all nz h =
    let digit : IsDigit b = All-head IsDigit b ds all in
    not_mark_of b (λ e. omega arith) nz (λ e. omega arith)

dotted : (point rest : List ℕ) → IsPointed point → StartsNo (λ b. b ≡ 46) rest → StartsNo IsDigit rest → IsDotted (point ++ rest) point rest
dotted point rest (inl e) dot digit = (refl, inl (e, dot))
dotted point rest (inr k) dot digit = (refl, inr (k.0, k.1, k.2, digit))

-- a conversion's parts are the longest spans
pub spelled_parts : (c : Conversion) (rest : List ℕ) → IsSpelled c →
    AreParts (c.marks ++ (c.digits ++ (c.point ++ (c.modifier ++ c.letter ∷ rest)))) c.marks c.digits c.point c.modifier (c.letter ∷ rest)
spelled_parts c rest h =
    let three : List ℕ = c.modifier ++ c.letter ∷ rest in
    let two : List ℕ = c.point ++ three in
    let three_digit : StartsNo IsDigit three =
    after_point IsDigit c.modifier rest c.letter h.modifier (λ d. omega (arith, d)) (not_digit c.letter h.last) in
    let three_mark : StartsNo IsMark three =
    after_point IsMark c.modifier rest c.letter h.modifier
    (not_mark_of 108 (λ e. omega (arith, e)) (λ e. omega (arith, e)) (λ e. omega (arith, e))) (not_mark c.letter h.last) in
    let three_dot : StartsNo (λ b. b ≡ 46) three =
    after_point (λ b. b ≡ 46) c.modifier rest c.letter h.modifier (λ e. omega (arith, e)) (not_dot c.letter h.last) in
    record {
      after_marks = c.digits ++ two;
      after_digits = two;
      after_point = three;
      marks_whole = refl;
      marks_all = h.marks;
      marks_end = after_marks c.digits two h.digits h.no_zero (after_digits IsMark c.point three h.point
          (not_mark_of 46 (λ e. omega (arith, e)) (λ e. omega (arith, e)) (λ e. omega (arith, e))) three_mark);
      digits_whole = refl;
      digits_all = h.digits;
      digits_end = after_digits IsDigit c.point three h.point (λ d. omega (arith, d)) three_digit;
      dotted = dotted c.point three h.point three_dot three_digit;
      modifier_whole = refl;
      modifier_all = h.modifier;
      modifier_end = not_long c.letter h.last;
    }

-- a conversion as its parts
pub spelling-append : (c : Conversion) (rest : List ℕ) → spelling c ++ rest ≡ 37
    ∷ (c.marks ++ (c.digits ++ (c.point ++ (c.modifier ++ c.letter ∷ rest))))
spelling-append c rest = simp append_assoc

-- the parts that the bytes have are those of each conversion that begins there
pub same_parts : (b m d p l r rest : List ℕ) (c : Conversion) (q : Piece) → AreParts b m d p l r → Spells c q →
    37 ∷ b ≡ spelling c ++ rest → SameParts m d p l r c.marks c.digits c.point c.modifier (c.letter ∷ rest)
same_parts b m d p l r rest c q parts spells e =
    let tails : b ≡ c.marks ++ (c.digits ++ (c.point ++ (c.modifier ++ c.letter ∷ rest))) = cc (e ∙ spelling-append c rest) in
    parts-unique b m d p l r c.marks c.digits c.point c.modifier (c.letter ∷ rest) parts
    (subst (λ x. AreParts x c.marks c.digits c.point c.modifier (c.letter ∷ rest)) (sym tails)
    (spelled_parts c rest (is_spelled c q spells)))
