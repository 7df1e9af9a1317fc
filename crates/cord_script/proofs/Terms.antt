-- What a word says, and what it has to be: one term for each want, and no misfit.
use Rattle.std.specs.Prelude.{◌≡◌, ◌≢◌, ◌<◌, ◌∷◌, ◌⊎◌, ◌==◌, ◌&&◌, ◌||◌, if◌then◌else◌, ◌^◌}
use Rattle.cord_script.proofs.Common.{inl, inr, Some, None, ℕ, List, [], Bool, true, false, refl, sym, ◌∙◌, ap, length, arith}
use Rattle.cord_script.proofs.Common.{nat_lt, is_some, map, ℤ, pos, ne_eqb, Kind, Number, Numeral, Named, Function}
use Rattle.cord_script.proofs.Common.{Digits, Bytes, Relation, Less, Equal, Greater, Known, Word, Plain, BadName, BadNumber, is_digit}
use Rattle.cord_script.proofs.Common.{is_letter, is_name, each, are_digits, number_after, begins_numeral, numeral_of, function_word}
use Rattle.cord_script.proofs.Common.{relation_word, Term, Target, Operand, Value, Literal, FilePath, Applies, Compares, Formats, kind_of}
use Rattle.cord_script.proofs.Common.{IsTerm, AreTerms, first_of, unless, misfit, first_misfit, kind_error, same_kind, number_error}
use Rattle.cord_script.proofs.Common.{plain_number_misfit, function_misfit, relation_misfit, name_misfit, number_misfit, text_misfit}
use Rattle.cord_script.proofs.Common.{path_misfit, Want, and_parts, or_from, or_left, or_right}
use Rattle.std.proofs.lemmas.Bool.Decides.{nat_tests}
use Rattle.cord_script.specs.declared.kinds.Kind.TheVariants as kinds
use Rattle.cord_script.specs.declared.kinds.Want.TheVariants as wants
use Rattle.cord_script.proofs.Spelled.{chosen}
use Rattle.cord_script.proofs.Unique.{above, head_or}

-- what a term has to be
abbrev pub want_of : Term → Want
want_of (Target kind name) = wants.Target kind
want_of (Operand kind name) = wants.Operand kind
want_of (Value number) = wants.Number
want_of (Literal text) = wants.Text
want_of (FilePath path) = wants.Path
want_of (Applies function) = wants.Function
want_of (Compares relation) = wants.Relation
want_of (Formats text) = wants.Format

-- one of two tests holds
abbrev pub either : (x y : Bool) → (x || y) ≡ true → (x ≡ true) ⊎ (y ≡ true)
either true y h = inl refl
either false y h = inr h

-- each letter stands after the digits
letter_above : (c : ℕ) → is_letter c ≡ true → 57 < c
letter_above c h = grind (arith, nat_tests)

-- a name doesn't begin as a numeral
pub name_begins : (p : List ℕ) → is_name p ≡ true → begins_numeral p ≡ false
name_begins [] h = cc
name_begins (c ∷ cs) h =
    let l = letter_above c (and_parts (is_letter c) _ (and_parts (is_letter c && each _ cs) _ h).0).0 in
    let other : c ≢ 45 = omega arith in
    or_from (is_digit c) (c == 45) (above 48 57 c l) (ne_eqb c 45 other)

-- a numeral begins as one
pub numeral_begins : (p : List ℕ) (v : ℤ) → numeral_of p ≡ Some v → begins_numeral p ≡ true
numeral_begins [] v h = cc
numeral_begins (c ∷ cs) v h = elim (chosen (c == 45) _ _ (Some v) h) [
  | inl x ↦ or_right (is_digit c) (c == 45) x.0
  | inr x ↦ elim (chosen (are_digits (c ∷ cs) && nat_lt (number_after 0 (c ∷ cs)) (2 ^ 63)) (Some (pos (number_after 0 (c ∷ cs)))) None
      (Some v) x.1) [
        | inl y ↦ or_left (is_digit c) (c == 45) (and_parts (is_digit c) _ (and_parts (are_digits (c ∷ cs)) _ y.0).0).0
        | inr y ↦ absurd (let e = y.1 in cc)
      ]
]

pub same_kinds : (kind : Kind) → same_kind kind kind ≡ true
same_kinds kinds.Cord = refl
same_kinds kinds.Number = refl
same_kinds kinds.Extensible = refl

numeral_fits : (p : List ℕ) (v : ℤ) → numeral_of p ≡ Some v → plain_number_misfit p ≡ None
numeral_fits p v h =
    ap (λ b. if b then unless (is_some (numeral_of p)) BadNumber else unless (is_name p) BadName) (numeral_begins p v h)
    ∙ ap (λ o. unless (is_some o) BadNumber) h

named_fits : (p : List ℕ) → is_name p ≡ true → plain_number_misfit p ≡ None
named_fits p h =
    ap (λ b. if b then unless (is_some (numeral_of p)) BadNumber else unless (is_name p) BadName) (name_begins p h)
    ∙ ap (λ b. unless b BadName) h

function_fits : (f : Function) → function_misfit (Plain (function_word f)) ≡ None
function_fits Digits = refl
function_fits Bytes = refl

relation_fits : (r : Relation) → relation_misfit (Plain (relation_word r)) ≡ None
relation_fits Less = refl
relation_fits Equal = refl
relation_fits Greater = refl

-- a word that says a term is no misfit
term_right : (w : Word) (t : Term) → IsTerm w t → misfit (want_of t) w ≡ None
term_right w (Target kind name) h = ap name_misfit h.0 ∙ ap (λ b. unless b BadName) h.1
term_right w (Operand kind name) h = ap name_misfit h.0 ∙ ap (λ b. unless b BadName) h.1
term_right w (Value (Numeral v)) h = ap number_misfit h.1 ∙ numeral_fits h.0 v h.2
term_right w (Value (Named name)) h = ap number_misfit h.0 ∙ named_fits name h.1
term_right w (Literal text) h = ap text_misfit h
term_right w (FilePath path) h = ap path_misfit h.0 ∙ ap (λ b. unless b BadName) h.1
term_right w (Applies function) h = ap function_misfit h ∙ function_fits function
term_right w (Compares relation) h = ap relation_misfit h ∙ relation_fits relation
term_right w (Formats text) h = ap text_misfit h

pub numeral_known : (names : List Known) (p : List ℕ) (v : ℤ) → numeral_of p ≡ Some v → number_error names p ≡ None
numeral_known names p v h = ap (λ b. if b then None else kind_error (kind_of names p) kinds.Number) (numeral_begins p v h)

-- words that say terms are no misfits
pub words_fit : (ws : List Word) (ts : List Term) → AreTerms ws ts → first_misfit (map want_of ts) ws ≡ None
words_fit [] [] h = refl
words_fit (w ∷ ws) (t ∷ ts) h = ap (λ k. first_of k (first_misfit (map want_of ts) ws)) (term_right w t h.0) ∙ words_fit ws ts h.1
words_fit _ _ h = absurd h

-- as many words as terms
pub terms_count : (ws : List Word) (ts : List Term) → AreTerms ws ts → length ws ≡ length ts
terms_count [] [] h = refl
terms_count (w ∷ ws) (t ∷ ts) h = let r = terms_count ws ts h.1 in omega arith
terms_count _ _ h = absurd h

one_function : (f g : Function) → function_word f ≡ function_word g → f ≡ g
one_function Digits Digits h = refl
one_function Bytes Bytes h = refl
one_function _ _ h = cc

one_relation : (r s : Relation) → relation_word r ≡ relation_word s → r ≡ s
one_relation Less Less h = refl
one_relation Equal Equal h = refl
one_relation Greater Greater h = refl
one_relation _ _ h = absurd (omega (arith, ap head_or h))

numeral_or_name : (p name : List ℕ) (v : ℤ) → p ≡ name → numeral_of p ≡ Some v → is_name name ≡ true → ⊥
numeral_or_name p name v e h n =
    let clash : true ≡ false = sym (numeral_begins p v h) ∙ ap begins_numeral e ∙ name_begins name n in cc

one_number : (w : Word) (a b : Number) → IsTerm w (Value a) → IsTerm w (Value b) → a ≡ b
one_number w (Numeral v) (Numeral u) h k =
    let same : h.0 ≡ k.0 = let e = sym h.1 ∙ k.1 in cc in
    let values : Some v ≡ Some u = sym h.2 ∙ ap numeral_of same ∙ k.2 in
    cc
one_number w (Numeral v) (Named name) h k = absurd (numeral_or_name h.0 name v (let e = sym h.1 ∙ k.0 in cc) h.2 k.1)
one_number w (Named name) (Numeral v) h k = absurd (numeral_or_name k.0 name v (let e = sym k.1 ∙ h.0 in cc) k.2 h.1)
one_number w (Named a) (Named b) h k = let e = sym h.0 ∙ k.0 in cc

-- a word says one term of a want
one_term : (w : Word) (t u : Term) → IsTerm w t → IsTerm w u → want_of t ≡ want_of u → t ≡ u
one_term w (Target k a) (Target l b) h g e = let q = sym h.0 ∙ g.0 in cc
one_term w (Operand k a) (Operand l b) h g e = let q = sym h.0 ∙ g.0 in cc
one_term w (Value a) (Value b) h g e = ap Value (one_number w a b h g)
one_term w (Literal a) (Literal b) h g e = let q = sym h ∙ g in cc
one_term w (FilePath a) (FilePath b) h g e = let q = sym h.0 ∙ g.0 in cc
one_term w (Applies a) (Applies b) h g e = ap Applies (one_function a b (let q = sym h ∙ g in cc))
one_term w (Compares a) (Compares b) h g e = ap Compares (one_relation a b (let q = sym h ∙ g in cc))
one_term w (Formats a) (Formats b) h g e = let q = sym h ∙ g in cc
one_term w _ _ h g e = cc

-- words say one list of terms of these wants
pub one_list : (ws : List Word) (ts us : List Term) → AreTerms ws ts → AreTerms ws us → map want_of ts ≡ map want_of us → ts ≡ us
one_list [] [] [] h g e = refl
one_list [] (t ∷ ts) us h g e = absurd h
one_list (w ∷ ws) [] us h g e = absurd h
one_list (w ∷ ws) (t ∷ ts) (u ∷ us) h g e =
    let first : want_of t ≡ want_of u = cc in
    let others : map want_of ts ≡ map want_of us = cc in
    let r = one_list ws ts us h.1 g.1 others in
    ap (λ k. k ∷ ts) (one_term w t u h.0 g.0 first) ∙ ap (λ k. u ∷ k) r
one_list _ _ _ h g e = absurd g
