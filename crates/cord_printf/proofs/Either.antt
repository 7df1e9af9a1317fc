-- All bytes are a format, or have a bad conversion.
use Rattle.std.proofs.Common.{◌≡◌, ◌≢◌, ◌≤◌, ◌<◌, ℕ, zero, suc, List, [], ◌∷◌, ◌++◌, Option, Some, None, Bool, true, false, length, refl}
use Rattle.std.proofs.Common.{sym, ap, ◌∙◌, subst, inl, inr, ◌⊎◌, append_assoc, length-append, arith}
use Rattle.std.specs.Prelude.{All}
use Rattle.std.proofs.lemmas.Bool.{cases_eq, cases_lt}
use Rattle.std.proofs.lemmas.List.Elements.{All-nil, All-cons}
use Rattle.cord_printf.specs.declared.TheConstants.{MAX_WIDTH}
use Rattle.cord_printf.specs.declared.pieces.Flags.{Flags}
use Rattle.cord_printf.specs.declared.pieces.Radix.TheVariants.{Decimal, Octal, LowerHex, UpperHex}
use Rattle.cord_printf.specs.declared.pieces.Piece.{Piece}
use Rattle.cord_printf.specs.declared.pieces.Piece.TheVariants.{Text, Signed, Unsigned, Byte, Cord, Percent}
use Rattle.cord_printf.specs.Pieces.{IsMark, IsDigit, StartsNo, IsPoint, IsPiece, spelling, number_of, flags_of}
use Rattle.cord_printf.specs.inner.Reading.{AreParts, IsDotted, IsPointed, IsLettered, IsNoLetter, IsAllowedSpelling}
use Rattle.cord_printf.specs.Format.{IsFormat, BeginsConversion, IsBadAt}
use Rattle.cord_printf.specs.FormatLaws.{FormatOrBad}
use Rattle.cord_printf.proofs.Spelled.{not_mark_of}
use Rattle.cord_printf.proofs.Begins.{no_letter, no_width, no_precision, no_piece, not_allowed, converts}
use Rattle.cord_printf.proofs.Whole.{converted_piece}

mark_or_not : (c : ℕ) → IsMark c ⊎ (¬ IsMark c)
mark_or_not c = elim (cases_eq c 45) [
  | inl e ↦ inl (inl e)
  | inr n ↦ elim (cases_eq c 48) [
    | inl e ↦ inl (inr (inl e))
    | inr m ↦ elim (cases_eq c 43) [
      | inl e ↦ inl (inr (inr e))
      | inr o ↦ inr (not_mark_of c n m o)
    ]
  ]
]

digit_or_not : (c : ℕ) → IsDigit c ⊎ (¬ IsDigit c)
digit_or_not c = elim (cases_lt c 48) [
  | inl low ↦ inr (λ d. omega (arith, low, d))
  | inr from ↦ elim (cases_lt 57 c) [
    | inl high ↦ inr (λ d. omega (arith, high, d))
    | inr to ↦ inl (from, to)
  ]
]

plain_or_not : (c : ℕ) → (c ≢ 37) ⊎ (¬ (c ≢ 37))
plain_or_not c = elim (cases_eq c 37) [
  | inl e ↦ inr (λ n. n e)
  | inr n ↦ inl n
]

-- the longest span of a kind at the front
record Longest (P : ℕ → Type 0) (b : List ℕ) : Type 0 where
  pub prefix : List ℕ
  pub rest : List ℕ
  pub whole : b ≡ prefix ++ rest
  pub all : All P prefix
  pub ends : StartsNo P rest

longest : (P : ℕ → Type 0) → ((c : ℕ) → P c ⊎ (¬ P c)) → (b : List ℕ) → Longest P b
longest P test [] = record { prefix = []; rest = []; whole = refl; all = All-nil P; ends = tt }
longest P test (c ∷ b) = longer (longest P test b) (test c)
  where
    longer : Longest P b → P c ⊎ (¬ P c) → Longest P (c ∷ b)
    longer l (inl h) = record {
      prefix = c ∷ l.prefix;
      rest = l.rest;
      whole = ap (λ x. c ∷ x) l.whole;
      all = All-cons P c l.prefix h l.all;
      ends = l.ends;
    }
    longer l (inr n) = record { prefix = []; rest = c ∷ b; whole = refl; all = All-nil P; ends = n }

-- what may be a point stands at the front
dotted_of : (b : List ℕ) → (point rest : List ℕ) × IsDotted b point rest
dotted_of [] = ([], [], (refl, inl (refl, tt)))
dotted_of (c ∷ b) = elim (cases_eq c 46) [
  | inl e ↦ let l = longest IsDigit digit_or_not b in
      (46 ∷ l.prefix, l.rest, (ap (λ x. x ∷ b) e ∙ ap (λ x. 46 ∷ x) l.whole, inr (l.prefix, refl, l.all, l.ends)))
  | inr n ↦ ([], c ∷ b, (refl, inl (refl, n)))
]

-- the parts after a `%`
record Parts (b : List ℕ) : Type 0 where
  pub marks : List ℕ
  pub digits : List ℕ
  pub point : List ℕ
  pub modifier : List ℕ
  pub rest : List ℕ
  pub are : AreParts b marks digits point modifier rest

parts_of : (b : List ℕ) → Parts b
parts_of b =
    let marks = longest IsMark mark_or_not b in
    let digits = longest IsDigit digit_or_not marks.rest in
    let point = dotted_of digits.rest in
    let modifier = longest (λ c. c ≡ 108) (λ c. cases_eq c 108) point.1 in
    record {
      marks = marks.prefix;
      digits = digits.prefix;
      point = point.0;
      modifier = modifier.prefix;
      rest = modifier.rest;
      are = record {
        after_marks = marks.rest;
        after_digits = digits.rest;
        after_point = point.1;
        marks_whole = marks.whole;
        marks_all = marks.all;
        marks_end = marks.ends;
        digits_whole = digits.whole;
        digits_all = digits.all;
        digits_end = digits.ends;
        dotted = point.2;
        modifier_whole = modifier.whole;
        modifier_all = modifier.all;
        modifier_end = modifier.ends;
      };
    }

pointed : (b point rest : List ℕ) → IsDotted b point rest → IsPointed point
pointed b point rest (e, inl h) = inl h.0
pointed b point rest (e, inr h) = inr (h.0, h.1, h.2)

too_great : (point digits : List ℕ) → point ≡ 46 ∷ digits → MAX_WIDTH < number_of digits → (q : Option ℕ) → ¬ IsPoint point q
too_great point digits e big None h = absurd (cc (e, h))
too_great point digits e big (Some n) h =
    let same : h.0 ≡ digits = cc (e, h.1) in
    omega (arith, big, h.3, h.4, ap number_of same)

precision_or_not : (point : List ℕ) → IsPointed point → ((q : Option ℕ) × IsPoint point q) ⊎ ((q : Option ℕ) → ¬ IsPoint point q)
precision_or_not point (inl e) = inl (None, e)
precision_or_not point (inr (digits, e, all)) = elim (cases_lt MAX_WIDTH (number_of digits)) [
  | inl big ↦ inr (too_great point digits e big)
  | inr small ↦ inl (Some (number_of digits), (digits, e, all, refl, small))
]

lettered_or_not : (letter width : ℕ) (flags : Flags) (precision : Option ℕ) → ((q : Piece) × IsLettered letter flags width precision q) ⊎
    IsNoLetter letter
lettered_or_not letter width flags precision = elim (cases_eq letter 100) [
  | inl e ↦ inl (Signed flags width precision, (refl, refl, refl, inl e))
  | inr a ↦ elim (cases_eq letter 105) [
    | inl e ↦ inl (Signed flags width precision, (refl, refl, refl, inr e))
    | inr b ↦ elim (cases_eq letter 117) [
      | inl e ↦ inl (Unsigned Decimal flags width precision, (refl, refl, refl, e))
      | inr c ↦ elim (cases_eq letter 111) [
        | inl e ↦ inl (Unsigned Octal flags width precision, (refl, refl, refl, e))
        | inr d ↦ elim (cases_eq letter 120) [
          | inl e ↦ inl (Unsigned LowerHex flags width precision, (refl, refl, refl, e))
          | inr f ↦ elim (cases_eq letter 88) [
            | inl e ↦ inl (Unsigned UpperHex flags width precision, (refl, refl, refl, e))
            | inr g ↦ elim (cases_eq letter 99) [
              | inl e ↦ inl (Byte flags width, (refl, refl, e))
              | inr h ↦ elim (cases_eq letter 115) [
                | inl e ↦ inl (Cord flags width precision, (refl, refl, refl, inl e))
                | inr i ↦ elim (cases_eq letter 114) [
                  | inl e ↦ inl (Cord flags width precision, (refl, refl, refl, inr e))
                  | inr j ↦ elim (cases_eq letter 37) [
                    | inl e ↦ inl (Percent, e)
                    | inr k ↦ inr (a, b, c, d, f, g, h, i, j, k)
                  ]
                ]
              ]
            ]
          ]
        ]
      ]
    ]
  ]
]

-- what holds or doesn't
abbrev Decided : Type 0 → Type 0
Decided A = A ⊎ (¬ A)

is_off : (x : Bool) → Decided (x ≡ false)
is_off true = inr (λ e. cc)
is_off false = inl refl

is_none : (xs : List ℕ) → Decided (xs ≡ [])
is_none [] = inl refl
is_none (x ∷ xs) = inr (λ e. cc)

is_short : (xs : List ℕ) → Decided (length xs ≤ 2)
is_short xs = elim (cases_lt 2 (length xs)) [
  | inl long ↦ inr (λ few. omega (arith, long, few))
  | inr few ↦ inl few
]

both_hold : {A B : Type 0} → Decided A → Decided B → Decided (A × B)
both_hold (inl a) (inl b) = inl (a, b)
both_hold (inr n) b = inr (λ h. n h.0)
both_hold (inl a) (inr n) = inr (λ h. n h.1)

three_hold : {A B C : Type 0} → Decided A → Decided B → Decided C → Decided (A × B × C)
three_hold (inl a) (inl b) (inl c) = inl (a, b, c)
three_hold (inr n) b c = inr (λ h. n h.0)
three_hold (inl a) (inr n) c = inr (λ h. n h.1)
three_hold (inl a) (inl b) (inr n) = inr (λ h. n h.2)

four_hold : {A B C D : Type 0} → Decided A → Decided B → Decided C → Decided D → Decided (A × B × C × D)
four_hold (inl a) (inl b) (inl c) (inl d) = inl (a, b, c, d)
four_hold (inr n) b c d = inr (λ h. n h.0)
four_hold (inl a) (inr n) c d = inr (λ h. n h.1)
four_hold (inl a) (inl b) (inr n) d = inr (λ h. n h.2)
four_hold (inl a) (inl b) (inl c) (inr n) = inr (λ h. n h.3)

allowed_or_not : (q : Piece) (m d p l : List ℕ) → Decided (IsAllowedSpelling q m d p l)
allowed_or_not (Text t) m d p l = inr (λ h. h)
allowed_or_not (Signed flags width precision) m d p l = is_short l
allowed_or_not (Unsigned radix flags width precision) m d p l = both_hold (is_off flags.plus) (is_short l)
allowed_or_not (Byte flags width) m d p l = four_hold (is_off flags.zero) (is_off flags.plus) (is_none p) (is_none l)
allowed_or_not (Cord flags width precision) m d p l = three_hold (is_off flags.zero) (is_off flags.plus) (is_none l)
allowed_or_not Percent m d p l = four_hold (is_none m) (is_none d) (is_none p) (is_none l)

-- with a letter, a width and a precision that fit
fitting : (b m d p l r rest : List ℕ) (letter : ℕ) (precision : Option ℕ) → AreParts b m d p l r → r ≡ letter ∷ rest →
    number_of d ≤ MAX_WIDTH → IsPoint p precision → Decided (BeginsConversion (37 ∷ b))
fitting b m d p l r rest letter precision parts e small point = elim (lettered_or_not letter (number_of d) (flags_of m) precision) [
  | inr none ↦ inr (no_piece b m d p l r rest letter parts e none)
  | inl piece ↦ elim (allowed_or_not piece.0 m d p l) [
    | inl allowed ↦ inl (
      piece.0,
      rest,
      converts b m d p l r rest letter (number_of d) (flags_of m) precision piece.0 parts e refl
          (refl, small) point piece.1 allowed,
    )
    | inr refused ↦ inr (not_allowed b m d p l r rest letter (number_of d) (flags_of m) precision piece.0 parts e refl refl point piece.1
        refused)
  ]
]

begins_by : (b m d p l r : List ℕ) → AreParts b m d p l r → Decided (BeginsConversion (37 ∷ b))
begins_by b m d p l [] parts = inr (no_letter b m d p l [] parts refl)
begins_by b m d p l (letter ∷ rest) parts = elim (cases_lt MAX_WIDTH (number_of d)) [
  | inl big ↦ inr (no_width b m d p l (letter ∷ rest) parts big)
  | inr small ↦ elim (precision_or_not p (pointed parts.after_digits p parts.after_point parts.dotted)) [
    | inl precision ↦ fitting b m d p l (letter ∷ rest) rest letter precision.0 parts refl small precision.1
    | inr none ↦ inr (no_precision b m d p l (letter ∷ rest) parts none)
  ]
]

-- a conversion begins after a `%`, or none does
begins_or_not : (b : List ℕ) → Decided (BeginsConversion (37 ∷ b))
begins_or_not b = let parts = parts_of b in begins_by b parts.marks parts.digits parts.point parts.modifier parts.rest parts.are

-- a piece at the front, and what follows it
record FirstPiece (b : List ℕ) : Type 0 where
  pub piece : Piece
  pub written : List ℕ
  pub rest : List ℕ
  pub whole : b ≡ written ++ rest
  pub is : IsPiece written piece rest
  pub shorter : length rest < length b

converted : (b : List ℕ) → BeginsConversion (37 ∷ b) → FirstPiece (37 ∷ b)
converted b h =
    let k = converted_piece b (37 ∷ b) h.1 h.0 refl h.2 in
    let c = h.2.0 in
    let lengths = ap length h.2.2 ∙ length-append (spelling c) h.1 in
    record { piece = h.0; written = k.0; rest = h.1; whole = k.1; is = k.2; shorter = omega (arith, lengths) }

plain_text : (c : ℕ) (b : List ℕ) → c ≢ 37 → FirstPiece (c ∷ b)
plain_text c b n =
    let l = longest (λ d. d ≢ 37) plain_or_not b in
    let lengths = ap length l.whole ∙ length-append l.prefix l.rest in
    record {
      piece = Text (c ∷ l.prefix);
      written = c ∷ l.prefix;
      rest = l.rest;
      whole = ap (λ x. c ∷ x) l.whole;
      is = (refl, (λ e. cc), All-cons (λ d. d ≢ 37) c l.prefix n l.all, l.ends);
      shorter = omega (arith, lengths);
    }

abbrev Either : List ℕ → Type 0
Either b = ((ps : List Piece) × IsFormat b ps) ⊎ ((offset : ℕ) × IsBadAt b offset)

-- one more piece in front
after_piece : (b : List ℕ) (p : FirstPiece b) → Either p.rest → Either b
after_piece b p (inl h) = inl (p.piece ∷ h.0, (p.written, p.rest, p.whole, p.is, h.1))
after_piece b p (inr (offset, bad)) = inr (
  length (p.written ++ bad.prefix),
  record {
    pieces = p.piece ∷ bad.pieces;
    prefix = p.written ++ bad.prefix;
    rest = bad.rest;
    whole = p.whole ∙ ap (λ x. p.written ++ x) bad.whole ∙ sym (append_assoc p.written bad.prefix (37 ∷ bad.rest));
    read = (p.written, p.rest, p.whole, p.is, bad.read);
    offset_is = refl;
    bad = bad.bad;
  },
)

bad_here : (b : List ℕ) → ¬ BeginsConversion (37 ∷ b) → Either (37 ∷ b)
bad_here b n = inr (0, record { pieces = []; prefix = []; rest = b; whole = refl; read = refl; offset_is = refl; bad = n })

-- what stands at the front is a piece, or bad
prefix_or_bad : (c : ℕ) (b : List ℕ) → FirstPiece (c ∷ b) ⊎ Either (c ∷ b)
prefix_or_bad c b = elim (cases_eq c 37) [
  | inr n ↦ inl (plain_text c b n)
  | inl e ↦ subst (λ k. FirstPiece (k ∷ b) ⊎ Either (k ∷ b)) (sym e) (elim (begins_or_not b) [
    | inl h ↦ inl (converted b h)
    | inr n ↦ inr (bad_here b n)
  ])
]

up_to : (n : ℕ) (b : List ℕ) → length b ≤ n → Either b
up_to n [] few = inl ([], refl)
up_to zero (c ∷ b) few = absurd (omega arith)
up_to (suc n) (c ∷ b) few = elim (prefix_or_bad c b) [
  | inl p ↦ after_piece (c ∷ b) p (up_to n p.rest (omega (arith, few, p.shorter)))
  | inr found ↦ found
]

pub format_or_bad : FormatOrBad
format_or_bad b = up_to (length b) b (omega arith)
