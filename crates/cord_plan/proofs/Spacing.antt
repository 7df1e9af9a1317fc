-- Words between blanks, with what stands after them.
use Rattle.std.specs.Prelude.{◌≡◌, ◌<◌, ◌+◌, ◌∷◌, ◌++◌}
use Rattle.cord_plan.proofs.Common.{ℕ, zero, suc, List, [], length, take, drop, get_or, map, Ok, Err, refl, sym, ap, ◌∙◌, append-nil}
use Rattle.cord_plan.proofs.Common.{append_assoc, arith, Writes, spaced}
use Rattle.cord_io.specs.declared.writing.Sink as sinks
use Rattle.cord_plan.proofs.Writing.{AreJoined, joined_next, joined_all, writes_same, writes_then, writes_cut}

pub two_words : (x y t : List ℕ) → (x ++ 32 ∷ y) ++ t ≡ x ++ 32 ∷ (y ++ t)
two_words x y t = append_assoc x (32 ∷ y) t

pub three_words : (x y z t : List ℕ) → (x ++ 32 ∷ (y ++ 32 ∷ z)) ++ t ≡ x ++ 32 ∷ (y ++ 32 ∷ (z ++ t))
three_words x y z t = append_assoc x (32 ∷ (y ++ 32 ∷ z)) t ∙ ap (λ (w : List ℕ). x ++ 32 ∷ w) (two_words y z t)

-- what stands before member i, where this stands before the first one
abbrev pub blank_at : List ℕ → ℕ → List ℕ
blank_at first zero = first
blank_at first (suc i) = 32 ∷ []

pub blank_later : (first : List ℕ) (i : ℕ) → 32 ∷ [] ≡ blank_at first (i + 1)
blank_later first i = let e : i + 1 ≡ suc i = omega arith in sym (ap (blank_at first) e)

-- texts of the members of a list with one blank between them, where `more` has a blank before each
pub record AreSpaced {A : Type 0} (first : List ℕ) (text more : List A → List ℕ) (one : A → List ℕ) : Type 0 where
  pub nil : text [] ≡ []
  pub cons : (x : A) (xs : List A) → text (x ∷ xs) ≡ first ++ (one x ++ more xs)
  pub suffix : AreJoined more (λ x. 32 ∷ one x)

after_more : (first one more next : List ℕ) → first ++ (one ++ (more ++ next)) ≡ (first ++ (one ++ more)) ++ next
after_more first one more next = ap (λ (t : List ℕ). first ++ t) (sym (append_assoc one more next)) ∙ sym (append_assoc first (one ++ more) next)

module _ {A : Type 0} (first : List ℕ) (text more : List A → List ℕ) (one : A → List ℕ) (j : AreSpaced first text more one) where
  spaced_next : (xs : List A) (i : ℕ) (d : A) → i < length xs →
      text (take (i + 1) xs) ≡ text (take i xs) ++ (blank_at first i ++ one (get_or xs i d))
  spaced_next [] i d h = absurd (omega (arith, h))
  spaced_next (x ∷ xs) zero d h = j.cons x [] ∙ ap (λ (t : List ℕ). first ++ (one x ++ t)) j.suffix.nil
      ∙ ap (λ (t : List ℕ). first ++ t) (append-nil (one x)) ∙ ap (λ (t : List ℕ). t ++ (first ++ one x)) (sym j.nil)
  spaced_next (x ∷ xs) (suc i) d h =
      let e : suc i + 1 ≡ suc (i + 1) = omega arith in
      ap (λ k. text (take k (x ∷ xs))) e ∙ j.cons x (take (i + 1) xs)
      ∙ ap (λ t. first ++ (one x ++ t)) (joined_next more (λ y. 32 ∷ one y) xs i d j.suffix (omega (arith, h)))
      ∙ after_more first (one x) (more (take i xs)) (32 ∷ one (get_or xs i d)) ∙ ap (λ (t : List ℕ). t ++ 32 ∷ one (get_or xs i d))
      (sym (j.cons x (take i xs)))

  -- what stands after so many of them
  rest_of : ℕ → List A → List ℕ
  rest_of i [] = []
  rest_of zero (x ∷ xs) = text (x ∷ xs)
  rest_of (suc i) (x ∷ xs) = more (drop i xs)

  spaced_all : (xs : List A) (i : ℕ) → text xs ≡ text (take i xs) ++ rest_of i xs
  unfolding rest_of
  spaced_all [] zero = sym (append-nil (text []))
  spaced_all [] (suc i) = sym (append-nil (text []))
  spaced_all (x ∷ xs) zero = ap (λ (t : List ℕ). t ++ text (x ∷ xs)) (sym j.nil)
  spaced_all (x ∷ xs) (suc i) = j.cons x xs ∙ ap (λ t. first ++ (one x ++ t)) (joined_all more (λ y. 32 ∷ one y) xs i j.suffix)
      ∙ after_more first (one x) (more (take i xs)) (more (drop i xs)) ∙ ap (λ (t : List ℕ). t ++ more (drop i xs)) (sym (j.cons x (take i xs)))

  one_more : (xs : List A) (i : ℕ) (x : A) → i < length xs → x ≡ get_or xs i x →
      text (take (i + 1) xs) ≡ text (take i xs) ++ (blank_at first i ++ one x)
  one_more xs i x h is = spaced_next xs i x h ∙ ap (λ (y : A). text (take i xs) ++ (blank_at first i ++ one y)) (sym is)

module _ {A S E : Type 0} {sink : sinks.Ghosts S} (first : List ℕ) (text more : List A → List ℕ) (one : A → List ℕ)
    (j : AreSpaced first text more one) (xs : List A) (i : ℕ) (x : A) (inside : i < length xs) (is : x ≡ get_or xs i x) where
  -- one more was taken
  pub spaced_writes : {a b c : S} → Writes {E = E} sink (text (take i xs)) a b (Ok tt) →
      Writes {E = E} sink (blank_at first i ++ one x) b c (Ok tt) → Writes {E = E} sink (text (take (i + 1) xs)) a c (Ok tt)
  spaced_writes h g = writes_same (sym (one_more first text more one j xs i x inside is)) (writes_then h g)

  -- the next was not taken whole
  pub spaced_broken : {a b c : S} {e : E} → Writes {E = E} sink (text (take i xs)) a b (Ok tt) →
      Writes sink (blank_at first i ++ one x) b c (Err e) → Writes sink (text xs) a c (Err e)
  spaced_broken = writes_cut (rest_of first text more one j (i + 1) xs) (spaced_all first text more one j xs (i + 1))
      (one_more first text more one j xs i x inside is)

-- words
abbrev pub after_words : {A : Type 0} → (A → List ℕ) → List A → List ℕ
after_words one [] = []
after_words one (x ∷ xs) = 32 ∷ one x ++ after_words one xs

words_cons : {A : Type 0} (one : A → List ℕ) (x : A) (xs : List A) → spaced (map one (x ∷ xs)) ≡ one x ++ after_words one xs
words_cons one x [] = sym (append-nil (one x))
words_cons one x (y ∷ ys) = ap (λ (t : List ℕ). one x ++ 32 ∷ t) (words_cons one y ys)

pub words_spaced : {A : Type 0} (one : A → List ℕ) → AreSpaced [] (λ xs. spaced (map one xs)) (after_words one) one
words_spaced one = record { nil = refl; cons = words_cons one; suffix = record { nil = refl; cons = λ x xs. refl } }

-- what is made of a line's head and what is after it
pub given_line : (line verb target made : List ℕ) → (line ++ 32 ∷ (verb ++ 32 ∷ (target ++ 32 ∷ []))) ++ made
    ≡ spaced (line ∷ verb ∷ target ∷ made ∷ [])
given_line line verb target made = three_words line verb (target ++ 32 ∷ []) made ∙ ap (λ (t : List ℕ). line ++ 32 ∷ (verb ++ 32 ∷ t))
    (append_assoc target (32 ∷ []) made)
