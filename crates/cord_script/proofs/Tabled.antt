-- The table of statements, as the code looks a word up in it.
use Rattle.std.specs.Prelude.{◌≡◌, ◌≤◌, ◌<◌, ◌+◌, ◌∷◌, if◌then◌else◌}
use Rattle.cord_script.proofs.Common.{Some, None, ℕ, List, [], length, Bool, true, false, sym, ◌∙◌, ap, Option, MatchOption, refl}
use Rattle.cord_script.proofs.Common.{filter, cond, bytes_eq, Form, Verb, verb_word, find_verb, all_verbs, false_from_ne_true}
use Rattle.cord_script.proofs.Common.{arith, drop, drop_all, drop_more}
use Rattle.cord_script.specs.Forms.{form_of}
use Rattle.cord_script.specs.inner.Verbal.{FindsVerb, Spells}
use Rattle.cord_script.proofs.Firsts.{same_bytes}

-- the form of a verb's word
abbrev pub form_at : Option Verb → Option Form
form_at None = None
form_at (Some v) = form_of (verb_word v)

-- a choice of verbs is a choice of forms
form_chosen : (c : Bool) (v : Verb) (o : Option Verb) → form_at (if c then Some v else o) ≡ (if c then form_at (Some v) else form_at o)
form_chosen true v o = refl
form_chosen false v o = refl

-- the verb of a word has its form
pub form_found : (w : List ℕ) → form_at (find_verb all_verbs w) ≡ form_of w
unfolding form_of
form_found w = simp form_chosen

-- a verb whose word's length fails a test has another word than one whose length passes it
other_word : (test : ℕ → Bool) (w : List ℕ) (v : Verb) → test (length w) ≡ true → test (length (verb_word v)) ≡ false →
    bytes_eq w (verb_word v) ≡ false
other_word test w v passes fails = false_from_ne_true (bytes_eq w (verb_word v)) (λ same.
    let clash : true ≡ false = sym passes ∙ ap (λ x. test (length x)) (same_bytes w (verb_word v) same) ∙ fails in
    cc)

-- a word whose length passes a test is a verb's if it is that of one whose word's length does
by_length : (test : ℕ → Bool) (vs : List Verb) (w : List ℕ) → test (length w) ≡ true →
    find_verb (filter (λ v. test (length (verb_word v))) vs) w ≡ find_verb vs w
by_length test [] w passes = refl
by_length test (v ∷ vs) w passes = among (test (length (verb_word v))) refl (by_length test vs w passes)
  where
    among : (b : Bool) → test (length (verb_word v)) ≡ b →
        find_verb (filter (λ v. test (length (verb_word v))) vs) w ≡ find_verb vs w →
        find_verb (cond b (v ∷ filter (λ v. test (length (verb_word v))) vs) (filter (λ v. test (length (verb_word v))) vs)) w
        ≡ find_verb (v ∷ vs) w
    among true e h = ap (λ o. if bytes_eq w (verb_word v) then Some v else o) h
    among false e h = h ∙ sym (ap (λ b. if b then Some v else find_verb vs w) (other_word test w v passes e))

-- a word that spells a text from its front is the text
spells_within : (w : List ℕ) (i : ℕ) (xs : List ℕ) → Spells w i xs → i ≤ length w
spells_within w i [] h = omega (arith, h)
spells_within w i (c ∷ cs) h = omega (arith, spells_within w (i + 1) cs h.1)

spells_rest : (w : List ℕ) (i : ℕ) (xs : List ℕ) → Spells w i xs → drop i w ≡ xs
spells_rest w i [] h = drop_all i w (omega (arith, h))
spells_rest w i (c ∷ cs) h =
    let within : i < length w = omega (arith, spells_within w (i + 1) cs h.1) in
    drop_more w i 0 within ∙ ap (λ d. d ∷ drop (i + 1) w) h.0 ∙ ap (λ r. c ∷ r) (spells_rest w (i + 1) cs h.1)

-- a word that is that of no verb whose word's length passes is no statement's word, where its length passes
pub found : (test : ℕ → Bool) (w : List ℕ) (r : Option Verb) → test (length w) ≡ true → FindsVerb test w r →
    MatchOption r (form_of w ≡ None) (λ v. w ≡ verb_word v)
found test w None passes h = sym (form_found w) ∙ ap form_at (sym (by_length test all_verbs w passes) ∙ h)
found test w (Some v) passes h = spells_rest w 0 (verb_word v) h
