-- Lines of a script.
use Rattle.std.specs.Prelude.{◌≡◌, ◌≢◌, ◌<◌, ◌+◌, ◌∷◌, ◌++◌, ◌==◌, slice_index}
use Rattle.cord_script.proofs.Common.{inl, inr, ℕ, zero, suc, List, [], refl, sym, ◌∙◌, ap, subst, take, drop, length, arith, Bool, true}
use Rattle.cord_script.proofs.Common.{false, Some, None, eq-eqb, eqb-true, eqb-false, All-nil, All-cons, All-head, All-tail, All, MatchBool, take-append-drop}
use Rattle.cord_script.proofs.Common.{take_all, Nowhere, Passes, IsFirstByte, is_byte, IsSplit, IsBlank, IsIdle, StartsNoBlank, Option}
use Rattle.std.proofs.lemmas.Bool.{cases_Bool, cases_lt, false≢true}
use Rattle.std.proofs.Math.Logic.{⊎_elim}
use Rattle.memchr.proofs.lemmas.ValueLemmas.{IsFirstByte-value}
use Rattle.memchr.specs.Find.{IsFirst, TakesFirst, first_of, places}

-- a list in two parts
pub parts : (n : ℕ) (xs : List ℕ) → xs ≡ take n xs ++ drop n xs
parts n xs = sym (take-append-drop n xs)

-- no bytes are no lines
pub split_nil : (lines : List (List ℕ)) → IsSplit [] lines → lines ≡ []
split_nil [] h = refl
split_nil ([] ∷ lines) (n, inl h) = absurd (h.1 refl)
split_nil ([] ∷ lines) (n, inr h) = cc
split_nil ((c ∷ cs) ∷ lines) (n, inl h) = cc
split_nil ((c ∷ cs) ∷ lines) (n, inr h) = cc

-- what is taken of a list first
first_is : (xs t : List ℕ) (r : Option ℕ) → TakesFirst xs r t → r ≡ first_of xs
unfolding first_of
first_is [] t None h = refl
first_is (x ∷ xs) t None h = absurd (let clash : x ∷ xs ≡ [] = h.0 in cc)
first_is [] t (Some y) h = cc
first_is (x ∷ xs) t (Some y) h = let same : x ≡ y = cc in ap (λ k. Some k) (sym same)

-- there is a first place up to n, or none
module _ (test : ℕ → Bool) (b : List ℕ) where
  longer : (n : ℕ) (r : Option ℕ) → IsFirst (Passes test b) 0 n r → (r : Option ℕ) × IsFirst (Passes test b) 0 (suc n) r
  longer n (Some k) h = (Some k, (record { low = h.0.low; high = omega (arith, h.0.high); before = h.0.before }, h.1))
  longer n None h = ⊎_elim
      (λ p. (Some n, (record { low = omega arith; high = omega arith; before = h }, p)))
      (λ no. (
        None,
        λ k low high p. ⊎_elim (λ lt. h k low lt p)
            (λ ge. let same : k ≡ n = omega (arith, high, ge) in false≢true (sym no ∙ subst (Passes test b) same p)) (cases_lt k n),
      ))
      (cases_Bool (test (slice_index b n)))

  first_there : (n : ℕ) → (r : Option ℕ) × IsFirst (Passes test b) 0 n r
  first_there zero = (None, λ k low high. absurd (omega (arith, low, high)))
  first_there (suc n) = longer n (first_there n).0 (first_there n).1

  -- the first of the places is the first place
  pub first_place : (r : Option ℕ) (t : List ℕ) → TakesFirst (places test b) r t → IsFirstByte test b r
  first_place r t h =
      let there = first_there (length b) in
      subst (IsFirstByte test b) (IsFirstByte-value test b there.0 there.1 ∙ sym (first_is (places test b) t r h)) there.1

-- the bytes up to a place, of which none is byte 10
before_end : (b : List ℕ) (end : ℕ) → Nowhere (Passes (is_byte 10) b) 0 end → All (λ c. c ≢ 10) (take end b)
before_end b zero none = All-nil (λ c. c ≢ 10)
before_end [] (suc end) none = All-nil (λ c. c ≢ 10)
before_end (c ∷ cs) (suc end) none = All-cons (λ d. d ≢ 10) c (take end cs) (λ e. none zero (omega arith) (omega arith) (eq-eqb c 10 e))
    (before_end cs end (λ k low high. none (suc k) (omega arith) (omega arith)))

-- a byte 10, what is before it and what follows it
at_end : (b : List ℕ) (end : ℕ) → end < length b → Passes (is_byte 10) b end → b ≡ take end b ++ 10 ∷ drop (suc end) b
at_end [] end lt h = absurd (omega arith)
at_end (c ∷ cs) zero lt h = ap (λ d. d ∷ cs) (eqb-true c 10 h)
at_end (c ∷ cs) (suc end) lt h = ap (λ r. c ∷ r) (at_end cs end (omega arith) h)

-- the first line ends at the first byte 10
pub split_first : (b : List ℕ) (end : ℕ) (lines : List (List ℕ)) → IsFirstByte (is_byte 10) b (Some end) →
    IsSplit (drop (end + 1) b) lines → IsSplit b (take end b ∷ lines)
split_first b end lines h s =
    let next : end + 1 ≡ suc end = omega arith in
    (before_end b end h.0.before, inr (drop (suc end) b, at_end b end h.0.high h.1, subst (λ n. IsSplit (drop n b) lines) next s))

-- bytes without a byte 10 are one line
pub split_last : (b : List ℕ) (lines : List (List ℕ)) → b ≢ [] → IsFirstByte (is_byte 10) b None → IsSplit [] lines → IsSplit b (b ∷ lines)
split_last b lines some h s = (
  subst (All (λ c. c ≢ 10)) (take_all (length b) b (omega arith)) (before_end b (length b) h),
  inl (split_nil lines s, some, refl),
)

-- a note is no statement
pub idle_note : (line inner : List ℕ) (b : ℕ) → drop b line ≡ 35 ∷ inner → All IsBlank (take b line) → IsIdle line
idle_note line inner b e h = inr (take b line, inner, h, parts b line ∙ ap (λ x. take b line ++ x) e)

-- a byte among such bytes is one
pub among_all : (P : ℕ → Type 0) (prefix rest : List ℕ) (c : ℕ) → All P (prefix ++ c ∷ rest) → P c
among_all P [] rest c h = All-head P c rest h
among_all P (x ∷ xs) rest c h = among_all P xs rest c (All-tail P x (xs ++ c ∷ rest) h)

-- the bytes of a kind at the front end at one place, where what follows begins with none
pub one_run : (P : ℕ → Type 0) (Ends : List ℕ → Type 0) → ((c : ℕ) (cs : List ℕ) → Ends (c ∷ cs) → ¬ P c) → (f g r s : List ℕ) → All P f → Ends r →
    All P g → Ends s → f ++ r ≡ g ++ s → (f ≡ g) × (r ≡ s)
one_run P Ends none [] [] r s hf nr hg ns e = (refl, e)
one_run P Ends none [] (y ∷ g) r s hf nr hg ns e = absurd (none y (g ++ s) (subst Ends e nr) (All-head P y g hg))
one_run P Ends none (x ∷ f) [] r s hf nr hg ns e = absurd (none x (f ++ r) (subst Ends (sym e) ns) (All-head P x f hf))
one_run P Ends none (x ∷ f) (y ∷ g) r s hf nr hg ns e =
    let rest : f ++ r ≡ g ++ s = cc in
    let t = one_run P Ends none f g r s (All-tail P x f hf) nr (All-tail P y g hg) ns rest in
    let same : x ≡ y = cc in
    (let fs = t.0 in cc, t.1)

-- the first byte that is no blank is one, and so is what follows it
pub one_shown : (f g : List ℕ) (c d : ℕ) (r s : List ℕ) → All IsBlank f → ¬ IsBlank c → All IsBlank g → ¬ IsBlank d → f ++ c ∷ r ≡ g ++ d ∷ s →
    (c ≡ d) × (r ≡ s)
one_shown f g c d r s hf nc hg nd e =
    let same = (one_run IsBlank StartsNoBlank (λ _ _ h. h) f g (c ∷ r) (d ∷ s) hf nc hg nd e).1 in
    (cc, cc)

-- `#` is no blank
pub note_shows : ¬ IsBlank 35
note_shows = λ h. elim h [ inl e ↦ omega arith | inr k ↦ elim k [ inl e ↦ omega arith | inr e ↦ omega arith ] ]

note_by : (line inner : List ℕ) (b c : ℕ) (x : Bool) → (c == 35) ≡ x → drop b line ≡ c ∷ inner → All IsBlank (take b line) → ¬ IsBlank c →
    MatchBool x (IsIdle line) (¬ IsIdle line)
note_by line inner b c true t e h s = idle_note line inner b (e ∙ ap (λ k. k ∷ inner) (eqb-true c 35 t)) h
note_by line inner b c false t e h s =
    let whole : line ≡ take b line ++ c ∷ inner = parts b line ∙ ap (λ k. take b line ++ k) e in
    λ idle. elim idle [
      | inl all ↦ s (among_all IsBlank (take b line) inner c (subst (All IsBlank) whole all))
      | inr note ↦ eqb-false c 35 t ((one_shown (take b line) note.0 c 35 inner note.1 h s note.2 note_shows (sym whole ∙ note.3)).0)
    ]

-- a line whose first other byte isn't `#` says something
pub is_note : (line inner : List ℕ) (b c : ℕ) → drop b line ≡ c ∷ inner → All IsBlank (take b line) → StartsNoBlank (drop b line) →
    MatchBool (c == 35) (IsIdle line) (¬ IsIdle line)
is_note line inner b c e h s = note_by line inner b c (c == 35) refl e h (subst StartsNoBlank e s)
