-- Lines end where the byte 10 is found.
use Rattle.std.proofs.Common.{◌≡◌, ℕ, suc, ◌+◌, ◌-◌, ◌<◌, Bool, true, false, Option, Some, None, List, [], ◌∷◌, length, take, drop, map}
use Rattle.std.proofs.Common.{refl, sym, ap, ◌∙◌, arith, length-drop}
use Rattle.std.specs.Prelude.{◌==◌, if◌then◌else◌, nat_le}
use Rattle.std.proofs.lemmas.Bool.Decides.{nat_tests}
use Rattle.std.proofs.lemmas.List.{take_all, drop_all, drop-drop}
use Rattle.cord_core.specs.Texts.{first_from, first}
use Rattle.cord.specs.Lines.{led_by, lines, bare, bare_lines, lines_as}

-- the first k + 1 bytes are a line with its end
pub record IsEnded (y : List ℕ) (k : ℕ) : Type 0 where
  pub line : lines y ≡ take (suc k) y ∷ lines (drop (suc k) y)
  pub bare : bare (take (suc k) y) ≡ take k y

-- what the search answers at a byte
abbrev here : ℕ → ℕ → List ℕ → Bool → Option ℕ
here i b y is = if (if is then true else false) then Some i else first_from (i + 1) y (10 ∷ [])

abbrev HasEnd : (i : ℕ) (y : List ℕ) (p : ℕ) → Type 0
HasEnd i y p = (k : ℕ) × (p ≡ i + k) × IsEnded y k

-- an end is found
end_here : (i b : ℕ) (y : List ℕ) (p : ℕ) (is : Bool) → (b == 10) ≡ is → here i b y is ≡ Some p →
    (first_from (i + 1) y (10 ∷ []) ≡ Some p → HasEnd (i + 1) y p) → HasEnd i (b ∷ y) p
end_here i b y p true h e later = let same : i ≡ p = cc in (0, omega (arith, same), record { line = rw h refl; bare = rw h refl })
end_here i b y p false h e later =
    let r = later e in
    (suc r.0, omega (arith, r.1), record { line = rw (h, r.2.line) refl; bare = rw h (ap (λ (z : List ℕ). b ∷ z) r.2.bare) })

ended_at : (i : ℕ) (y : List ℕ) (p : ℕ) → first_from i y (10 ∷ []) ≡ Some p → HasEnd i y p
ended_at i [] p e = cc
ended_at i (b ∷ y) p e = end_here i b y p (b == 10) refl e (ended_at (i + 1) y p)

-- none is found
abbrev IsWhole : ℕ → List ℕ → Type 0
IsWhole b y = (led_by b (lines y) ≡ (b ∷ y) ∷ []) × (bare y ≡ y)

pub record IsLastLine (y : List ℕ) : Type 0 where
  pub line : lines y ≡ y ∷ []
  pub bare : bare y ≡ y

none_here : (i b : ℕ) (y : List ℕ) (is : Bool) → (b == 10) ≡ is → here i b y is ≡ None →
    (first_from (i + 1) y (10 ∷ []) ≡ None → IsWhole b y) → IsLastLine (b ∷ y)
none_here i b y true h e later = cc
none_here i b y false h e later = let r = later e in record { line = rw h r.0; bare = rw h (ap (λ (z : List ℕ). b ∷ z) r.1) }

not_ended : (i b : ℕ) (y : List ℕ) → first_from i (b ∷ y) (10 ∷ []) ≡ None → IsLastLine (b ∷ y)
not_ended i b [] e = none_here i b [] (b == 10) refl e (λ n. (refl, refl))
not_ended i b (c ∷ y) e = none_here i b (c ∷ y) (b == 10) refl e (λ n. let r = not_ended (i + 1) c y n in (ap (led_by b) r.line, r.bare))

last_of : (i : ℕ) (y : List ℕ) → 0 < length y → first_from i y (10 ∷ []) ≡ None → IsLastLine y
last_of i [] lt e = absurd (omega (arith, lt))
last_of i (b ∷ y) lt e = not_ended i b y e

module _ (x : List ℕ) (i : ℕ) (lt : i < length x) where
  -- what is found from a place on is found in what follows it
  found_in : (o : Option ℕ) → first x i (10 ∷ []) ≡ o → first_from i (drop i x) (10 ∷ []) ≡ o
  found_in o e = let le : nat_le i (length x) ≡ true = grind (arith, nat_tests) in
      ap (λ (w : Bool). if w then first_from i (drop i x) (10 ∷ []) else None) (sym le) ∙ e

  module _ (p : ℕ) (e : first x i (10 ∷ []) ≡ Some p) where
    at : HasEnd i (drop i x) p
    at = ended_at i (drop i x) p (found_in (Some p) e)

    after : drop (suc at.0) (drop i x) ≡ drop (p + 1) x
    after = let n : i + suc at.0 ≡ p + 1 = omega (arith, at.1) in drop-drop (suc at.0) i x ∙ ap (λ (k : ℕ). drop k x) n

    pub next_with_end : lines_as true (drop i x) ≡ take (p + 1 - i) (drop i x) ∷ lines_as true (drop (p + 1) x)
    next_with_end = let n : p + 1 - i ≡ suc at.0 = omega (arith, at.1) in
        rw n (at.2.line ∙ ap (λ (z : List ℕ). take (suc at.0) (drop i x) ∷ lines z) after)

    pub next_bare : lines_as false (drop i x) ≡ take (p - i) (drop i x) ∷ lines_as false (drop (p + 1) x)
    next_bare =
        let n : p - i ≡ at.0 = omega (arith, at.1) in
        let one : bare_lines (drop i x) ≡ bare (take (suc at.0) (drop i x)) ∷ bare_lines (drop (suc at.0) (drop i x)) =
        ap (map bare) at.2.line in
        rw n (one ∙ ap (λ (z : List ℕ). z ∷ bare_lines (drop (suc at.0) (drop i x))) at.2.bare
        ∙ ap (λ (z : List ℕ). take at.0 (drop i x) ∷ bare_lines z) after)

  module _ (n : ℕ) (len : n ≡ length x) (e : first x i (10 ∷ []) ≡ None) where
    whole : take (n - i) (drop i x) ≡ drop i x
    whole = take_all (n - i) (drop i x) (omega (arith, length-drop i x, len))

    nothing : drop n x ≡ []
    nothing = drop_all n x (omega (arith, len))

    last : IsLastLine (drop i x)
    last = last_of i (drop i x) (omega (arith, length-drop i x, lt)) (found_in None e)

    pub last_next : (w : Bool) → lines_as w (drop i x) ≡ take (n - i) (drop i x) ∷ lines_as w (drop n x)
    last_next true = rw (whole, nothing) last.line
    last_next false = rw (whole, nothing) (ap (map bare) last.line ∙ ap (λ (z : List ℕ). z ∷ []) last.bare)
