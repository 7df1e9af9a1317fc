-- There is one way to read bytes as pieces.
use Rattle.std.proofs.Common.{◌≡◌, ◌≢◌, ◌+◌, ℕ, List, [], ◌∷◌, ◌++◌, length, refl, sym, ap, ◌∙◌, subst, inl, inr, ◌⊎◌, length-append, arith}
use Rattle.std.specs.Prelude.{All}
use Rattle.std.proofs.lemmas.List.Elements.{All-head}
use Rattle.cord_printf.specs.declared.pieces.Piece.{Piece}
use Rattle.cord_printf.specs.declared.pieces.Piece.TheVariants.{Text, Signed, Unsigned, Byte, Cord, Percent}
use Rattle.cord_printf.specs.Pieces.{IsPiece, IsPoint, StartsNo, Conversion, flags_of, number_of}
use Rattle.cord_printf.specs.inner.Reading.{IsLettered}
use Rattle.cord_printf.specs.Format.{HasPieces, IsFormat, Converts, BeginsConversion}
use Rattle.cord_printf.specs.FormatLaws.{OneFormat, BadIsNoFormat, OneBadOffset}
use Rattle.cord_printf.proofs.Spans.{span-unique, SameParts}
use Rattle.cord_printf.proofs.Spelled.{same_parts, spelling-append, spelled_parts, is_spelled}
use Rattle.cord_printf.proofs.Lettered.{lettered_of, lettered-unique, point_of}
use Rattle.cord_printf.proofs.Begins.{same_lettered}

-- a text at the prefix of the bytes
record StartsText (b : List ℕ) (p : Piece) (rest : List ℕ) : Type 0 where
  pub text : List ℕ
  pub is : p ≡ Text text
  pub whole : b ≡ text ++ rest
  pub some : text ≢ []
  pub plain : All (λ c. c ≢ 37) text
  pub ends : StartsNo (λ c. c ≢ 37) rest

-- a piece is a text or a conversion
either_way : (b w rest : List ℕ) (p : Piece) → b ≡ w ++ rest → IsPiece w p rest → StartsText b p rest ⊎ Converts b p rest
either_way b w rest (Text t) e h = inl (record {
  text = t;
  is = refl;
  whole = e ∙ ap (λ x. x ++ rest) h.0;
  some = h.1;
  plain = h.2;
  ends = h.3;
})
either_way b w rest (Signed f wd p) e h = inr (h.0, h.2, e ∙ ap (λ x. x ++ rest) h.1)
either_way b w rest (Unsigned r f wd p) e h = inr (h.0, h.2, e ∙ ap (λ x. x ++ rest) h.1)
either_way b w rest (Byte f wd) e h = inr (h.0, h.2, e ∙ ap (λ x. x ++ rest) h.1)
either_way b w rest (Cord f wd p) e h = inr (h.0, h.2, e ∙ ap (λ x. x ++ rest) h.1)
either_way b w rest Percent e h = inr (h.0, h.2, e ∙ ap (λ x. x ++ rest) h.1)

no_percent : (b text rest tail : List ℕ) → b ≡ text ++ rest → text ≢ [] → All (λ c. c ≢ 37) text → b ≡ 37 ∷ tail → ⊥
no_percent b [] rest tail e some plain f = some refl
no_percent b (c ∷ text) rest tail e some plain f =
    let first : c ≡ 37 = cc (e, f) in
    All-head (λ x. x ≢ 37) c text plain first

-- a text doesn't stand where a `%` does
not_text : (b rest tail : List ℕ) (p : Piece) → StartsText b p rest → b ≡ 37 ∷ tail → ⊥
not_text b rest tail p h e = no_percent b h.text rest tail h.whole h.some h.plain e

begins : (b rest : List ℕ) (p : Piece) → Converts b p rest → (tail : List ℕ) × (b ≡ 37 ∷ tail)
begins b rest p h = (h.0.marks ++ (h.0.digits ++ (h.0.point ++ (h.0.modifier ++ h.0.letter ∷ rest))), h.2 ∙ spelling-append h.0 rest)

texts-unique : (b rest more : List ℕ) (p q : Piece) → StartsText b p rest → StartsText b q more → (p ≡ q) × (rest ≡ more)
texts-unique b rest more p q h k =
    let one = span-unique (λ c. c ≢ 37) h.text rest k.text more h.plain k.plain h.ends k.ends (sym h.whole ∙ k.whole) in
    (h.is ∙ ap (λ t. Text t) one.0 ∙ sym k.is, one.1)

conversions-unique : (b rest more : List ℕ) (p q : Piece) → Converts b p rest → Converts b q more → (p ≡ q) × (rest ≡ more)
unfolding begins
conversions-unique b rest more p q h k =
    let c : Conversion = h.0 in
    let d : Conversion = k.0 in
    let tail = begins b rest p h in
    let same : SameParts c.marks c.digits c.point c.modifier (c.letter ∷ rest) d.marks d.digits d.point d.modifier (d.letter ∷ more) =
    same_parts tail.0 c.marks c.digits c.point c.modifier (c.letter ∷ rest) more d q (spelled_parts c rest (is_spelled c p h.1)) k.1
    (sym tail.1 ∙ k.2) in
    let point = point_of c p h.1 in
    let letters : c.letter ≡ d.letter = cc same.rest in
    let mine : IsLettered c.letter (flags_of c.marks) (number_of c.digits) point.0 p = lettered_of c point.0 p point.1 h.1 in
    let yours : IsLettered d.letter (flags_of d.marks) (number_of d.digits) point.0 q =
    lettered_of d point.0 q (subst (λ x. IsPoint x point.0) same.point point.1) k.1 in
    let theirs : IsLettered c.letter (flags_of c.marks) (number_of c.digits) point.0 q =
    same_lettered c.letter (number_of c.digits) (flags_of c.marks) d.letter (number_of d.digits) (flags_of d.marks) point.0 q letters
    (ap flags_of same.marks) (ap number_of same.digits) yours in
    (lettered-unique c.letter (number_of c.digits) (flags_of c.marks) point.0 p q mine theirs, cc same.rest)

-- one piece stands at the front, before one rest
piece-unique : (b rest more : List ℕ) (p q : Piece) → StartsText b p rest ⊎ Converts b p rest → StartsText b q more ⊎ Converts b q more →
    (p ≡ q) × (rest ≡ more)
piece-unique b rest more p q (inl h) (inl k) = texts-unique b rest more p q h k
piece-unique b rest more p q (inl h) (inr k) = let t = begins b more q k in absurd (not_text b rest t.0 p h t.1)
piece-unique b rest more p q (inr h) (inl k) = let t = begins b rest p h in absurd (not_text b more t.0 q k t.1)
piece-unique b rest more p q (inr h) (inr k) = conversions-unique b rest more p q h k

no_bytes : (b rest : List ℕ) (p : Piece) → StartsText b p rest ⊎ Converts b p rest → b ≢ []
no_bytes b rest p (inl h) e = h.some (no_prefix h.text rest (sym h.whole ∙ e))
  where
    no_prefix : (xs ys : List ℕ) → xs ++ ys ≡ [] → xs ≡ []
    no_prefix [] ys e = refl
    no_prefix (x ∷ xs) ys e = absurd (cc e)
no_bytes b rest p (inr h) e = let t = begins b rest p h in absurd (cc (t.1, e))

pub format-unique : OneFormat
format-unique b [] [] h k = refl
format-unique b [] (q ∷ qs) h k = absurd (no_bytes b k.1 q (either_way b k.0 k.1 q k.2 k.3) h)
format-unique b (p ∷ ps) [] h k = absurd (no_bytes b h.1 p (either_way b h.0 h.1 p h.2 h.3) k)
format-unique b (p ∷ ps) (q ∷ qs) h k =
    let one = piece-unique b h.1 k.1 p q (either_way b h.0 h.1 p h.2 h.3) (either_way b k.0 k.1 q k.2 k.3) in
    let rest = format-unique h.1 ps qs h.4 (subst (λ x. IsFormat x qs) (sym one.1) k.4) in
    cc (one.0, rest)

-- no piece begins with a `%` that begins no conversion
bad_prefix : (b rest tail : List ℕ) (p : Piece) → b ≡ 37 ∷ tail → ¬ BeginsConversion (37 ∷ tail) → StartsText b p rest ⊎ Converts b p rest →
    ⊥
bad_prefix b rest tail p e bad (inl h) = not_text b rest tail p h e
bad_prefix b rest tail p e bad (inr h) = bad (p, rest, (h.0, h.1, sym e ∙ h.2))

bad_format : (b tail : List ℕ) (ps qs : List Piece) → HasPieces b ps (37 ∷ tail) → ¬ BeginsConversion (37 ∷ tail) → ¬ IsFormat b qs
bad_format b tail [] [] h bad k = absurd (cc (h, k))
bad_format b tail [] (q ∷ qs) h bad k = bad_prefix b k.1 tail q h bad (either_way b k.0 k.1 q k.2 k.3)
bad_format b tail (p ∷ ps) [] h bad k = no_bytes b h.1 p (either_way b h.0 h.1 p h.2 h.3) k
bad_format b tail (p ∷ ps) (q ∷ qs) h bad k =
    let one = piece-unique b h.1 k.1 p q (either_way b h.0 h.1 p h.2 h.3) (either_way b k.0 k.1 q k.2 k.3) in
    bad_format h.1 tail ps qs h.4 bad (subst (λ x. IsFormat x qs) (sym one.1) k.4)

pub bad_no_format : BadIsNoFormat
bad_no_format b offset h ps = bad_format b h.rest h.pieces ps h.read h.bad

bad_tail : (b tail other : List ℕ) (ps qs : List Piece) → HasPieces b ps (37 ∷ tail) → ¬ BeginsConversion (37 ∷ tail) →
    HasPieces b qs (37 ∷ other) → ¬ BeginsConversion (37 ∷ other) → tail ≡ other
bad_tail b tail other [] [] h bad k worse = cc (h, k)
bad_tail b tail other [] (q ∷ qs) h bad k worse = absurd (bad_prefix b k.1 tail q h bad (either_way b k.0 k.1 q k.2 k.3))
bad_tail b tail other (p ∷ ps) [] h bad k worse = absurd (bad_prefix b h.1 other p k worse (either_way b h.0 h.1 p h.2 h.3))
bad_tail b tail other (p ∷ ps) (q ∷ qs) h bad k worse =
    let one = piece-unique b h.1 k.1 p q (either_way b h.0 h.1 p h.2 h.3) (either_way b k.0 k.1 q k.2 k.3) in
    bad_tail h.1 tail other ps qs h.4 bad (subst (λ x. HasPieces x qs (37 ∷ other)) (sym one.1) k.4) worse

prefix_length : (b prefix rest : List ℕ) → b ≡ prefix ++ 37 ∷ rest → length b ≡ length prefix + (length rest + 1)
prefix_length b prefix rest e = omega (arith, ap length e, length-append prefix (37 ∷ rest))

pub bad-offset-unique : OneBadOffset
bad-offset-unique b m n h k =
    let tails : h.rest ≡ k.rest = bad_tail b h.rest k.rest h.pieces k.pieces h.read h.bad k.read k.bad in
    omega (
      arith,
      prefix_length b h.prefix h.rest h.whole,
      prefix_length b k.prefix k.rest k.whole,
      ap length tails,
      h.offset_is,
      k.offset_is,
    )
