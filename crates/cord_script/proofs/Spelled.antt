-- Quoted words and what they stand for.
use Rattle.std.specs.Prelude.{◌≡◌, ◌≢◌, ◌<◌, ◌≤◌, ◌+◌, ◌-◌, ◌*◌, ◌⊎◌, ◌∷◌, ◌++◌, ◌==◌, ◌&&◌, if◌then◌else◌}
use Rattle.cord_script.proofs.Common.{inl, inr, Some, None, ℕ, List, [], Bool, true, false, refl, sym, ◌∙◌, ap, append_assoc, append-nil}
use Rattle.cord_script.proofs.Common.{arith, eqb-true, Option, nat_le, nat_lt, ltb-true, ltb-false, same_Some, leb-true, eqb-false, Stands, SpellsText, HexDigit}
use Rattle.cord_script.proofs.Common.{digit_of, byte_of, hex_of, escape_of, unit_of, and_parts}

-- which of two values was chosen
abbrev pub chosen : {A : Type 0} (x : Bool) (p q z : A) → (if x then p else q) ≡ z → ((x ≡ true) × (p ≡ z)) ⊎ ((x ≡ false) × (q ≡ z))
chosen true p q z h = inl (refl, h)
chosen false p q z h = inr (refl, h)

-- a test holds or fails
abbrev pub tested : {A B : Type 0} (x : Bool) → (x ≡ true → A) → (x ≡ false → B) → A ⊎ B
tested true f g = inl (f refl)
tested false f g = inr (g refl)

abbrev pub same_or_not : (a b : ℕ) → (a ≡ b) ⊎ (a ≢ b)
same_or_not a b = tested (a == b) (eqb-true a b) (eqb-false a b)

abbrev pub less_or_not : (a b : ℕ) → (a < b) ⊎ (b ≤ a)
less_or_not a b = tested (nat_lt a b) (ltb-true a b) (ltb-false a b)

-- one more byte
pub spells_push : (w u t : List ℕ) (b : ℕ) → SpellsText w t → Stands u b → SpellsText (w ++ u) (t ++ b ∷ [])
spells_push w u [] b h s = (u, [], ap (λ x. x ++ u) h ∙ sym (append-nil u), s, refl)
spells_push w u (c ∷ t) b h s = (h.0, h.1 ++ u, ap (λ x. x ++ u) h.2 ∙ append_assoc h.0 h.1 u, h.3, spells_push h.1 u t b h.4 s)

-- the same pair
pub same_pair : (p q : ℕ × List ℕ) → Some p ≡ Some q → (p.0 ≡ q.0) × (p.1 ≡ q.1)
same_pair p q h =
    let e = same_Some p q h in
    (ap (λ r. r.0) e, ap (λ r. r.1) e)

-- a byte of a range has its value
in_range : (low high k c v : ℕ) → k ≤ low → (nat_le low c && nat_le c high) ≡ true → Some (c - k) ≡ Some v →
    (low ≤ c) × (c ≤ high) × (c ≡ k + v)
in_range low high k c v within t e =
    let p = and_parts (nat_le low c) (nat_le c high) t in
    let l = leb-true low c p.0 in
    let same = same_Some (c - k) v e in
    (l, leb-true c high p.1, omega arith)

-- a digit has its value
pub digit_stands : (c v : ℕ) → digit_of c ≡ Some v → HexDigit c v
digit_stands c v h = elim (chosen (nat_le 48 c && nat_le c 57) (Some (c - 48)) _ (Some v) h) [
  | inl x ↦ inl (in_range 48 57 48 c v (omega arith) x.0 x.1)
  | inr x ↦ elim (chosen (nat_le 97 c && nat_le c 102) (Some (c - 87)) _ (Some v) x.1) [
    | inl y ↦ inr (inl (in_range 97 102 87 c v (omega arith) y.0 y.1))
    | inr y ↦ elim (chosen (nat_le 65 c && nat_le c 70) (Some (c - 55)) None (Some v) y.1) [
      | inl z ↦ inr (inr (in_range 65 70 55 c v (omega arith) z.0 z.1))
      | inr z ↦ absurd (let e = z.1 in cc)
    ]
  ]
]

byte_stands : (high low : Option ℕ) (h l : ℕ) (rest v : List ℕ) (b : ℕ) → digit_of h ≡ high → digit_of l ≡ low →
    byte_of high low rest ≡ Some (b, v) → (x y : ℕ) × (rest ≡ v) × HexDigit h x × HexDigit l y × (b ≡ 16 * x + y)
byte_stands None low h l rest v b eh el e = cc
byte_stands (Some x) None h l rest v b eh el e = cc
byte_stands (Some x) (Some y) h l rest v b eh el e =
    let p = same_pair (16 * x + y, rest) (b, v) e in
    (x, y, p.1, digit_stands h x eh, digit_stands l y el, sym p.0)

-- two hexadecimal digits are read as what they stand for
pub hex_stands : (rest v : List ℕ) (b : ℕ) → hex_of rest ≡ Some (b, v) → (h l x y : ℕ) × (rest ≡ h ∷ l ∷ v) × HexDigit h x × HexDigit l y ×
    (b ≡ 16 * x + y)
hex_stands [] v b h = cc
hex_stands (c ∷ []) v b h = cc
hex_stands (c ∷ d ∷ rest) v b h =
    let r = byte_stands (digit_of c) (digit_of d) c d rest v b refl refl h in
    (c, d, r.0, r.1, ap (λ z. c ∷ d ∷ z) r.2, r.3, r.4, r.5)

-- the escape of a byte by a letter
one_escape : (c letter byte : ℕ) (rest v : List ℕ) (b : ℕ) → (c == letter) ≡ true →
    ◌≡◌ {A = Option (ℕ × List ℕ)} (Some (byte, rest)) (Some (b, v)) → (92 ∷ c ∷ rest ≡ (92 ∷ letter ∷ []) ++ v) × (b ≡ byte)
one_escape c letter byte rest v b same read =
    let p = same_pair (byte, rest) (b, v) read in
    (ap (λ z. 92 ∷ z ∷ rest) (eqb-true c letter same) ∙ ap (λ z. 92 ∷ letter ∷ z) p.1, sym p.0)

-- an escape is read as what it stands for
pub escape_stands : (rest v : List ℕ) (b : ℕ) → escape_of rest ≡ Some (b, v) → (u : List ℕ) × (92 ∷ rest ≡ u ++ v) × Stands u b
escape_stands [] v b h = cc
escape_stands (c ∷ rest) v b h = elim (chosen (c == 92) (Some (92, rest)) _ (Some (b, v)) h) [
  | inl x ↦ let p = one_escape c 92 92 rest v b x.0 x.1 in (92 ∷ 92 ∷ [], p.0, inr (inl (refl, p.1)))
  | inr x ↦ elim (chosen (c == 34) (Some (34, rest)) _ (Some (b, v)) x.1) [
    | inl y ↦ let p = one_escape c 34 34 rest v b y.0 y.1 in (92 ∷ 34 ∷ [], p.0, inr (inr (inl (refl, p.1))))
    | inr y ↦ elim (chosen (c == 110) (Some (10, rest)) _ (Some (b, v)) y.1) [
      | inl z ↦ let p = one_escape c 110 10 rest v b z.0 z.1 in (92 ∷ 110 ∷ [], p.0, inr (inr (inr (inl (refl, p.1)))))
      | inr z ↦ elim (chosen (c == 116) (Some (9, rest)) _ (Some (b, v)) z.1) [
        | inl q ↦ let p = one_escape c 116 9 rest v b q.0 q.1 in (92 ∷ 116 ∷ [], p.0, inr (inr (inr (inr (inl (refl, p.1))))))
        | inr q ↦ elim (chosen (c == 120) (hex_of rest) None (Some (b, v)) q.1) [
          | inl r ↦ let s = hex_stands rest v b r.1 in (
            92 ∷ 120 ∷ s.0 ∷ s.1 ∷ [],
            ap (λ k. 92 ∷ k ∷ rest) (eqb-true c 120 r.0) ∙ ap (λ k. 92 ∷ 120 ∷ k) s.4,
            inr (inr (inr (inr (inr (s.0, s.1, s.2, s.3, refl, s.5, s.6, s.7))))),
          )
          | inr r ↦ absurd (let e = r.1 in cc)
        ]
      ]
    ]
  ]
]

-- what is read at the front stands for its byte
pub unit_stands : (bytes v : List ℕ) (b : ℕ) → unit_of bytes ≡ Some (b, v) → (u : List ℕ) × (bytes ≡ u ++ v) × Stands u b
unit_stands [] v b h = cc
unit_stands (c ∷ rest) v b h = elim (chosen (c == 92) (escape_of rest) _ (Some (b, v)) h) [
  | inl x ↦ let s = escape_stands rest v b x.1 in
      (s.0, ap (λ k. k ∷ rest) (eqb-true c 92 x.0) ∙ s.1, s.2)
  | inr x ↦ elim (chosen (c == 34) None (Some (c, rest)) (Some (b, v)) x.1) [
    | inl y ↦ absurd (let e = y.1 in cc)
    | inr y ↦ let p = same_pair (c, rest) (b, v) y.1 in (
      b ∷ [],
      ap (λ k. k ∷ rest) p.0 ∙ ap (λ k. b ∷ k) p.1,
      inl
          (refl, (λ e. eqb-false c 34 y.0 (p.0 ∙ e)), (λ e. eqb-false c 92 x.0 (p.0 ∙ e))),
    )
  ]
]
