-- What is wrong with words where something is wanted of each is an error of their form.
use Rattle.std.specs.Prelude.{◌≡◌, ◌≤◌, ◌+◌, ◌∷◌, ◌++◌, ◌==◌}
use Rattle.cord_script.proofs.Common.{Some, None, ℕ, List, [], refl, sym, ◌∙◌, ap, take, length, arith, eq-eqb, subst, IfSome, Option, replicate}
use Rattle.cord_script.proofs.Common.{Bool, true, false, eqb-true, eqb-false, ne_eqb, misfit, format_wants}
use Rattle.cord_script.proofs.Common.{nat_le, le-leb, take-replicate, MIN_PARTS, MAX_PARTS, Want, FixedVerb, Word, RefusalKind, WrongCount}
use Rattle.cord_script.proofs.Common.{form_of, Words, Joined, Printed, Stays, Scope, first_of, unless, first_pair, first_misfit, cords}
use Rattle.cord_script.proofs.Common.{joined, verb_word, verb_effect, HasFormat, HasFormError, arguments_error, argument_words, names_error, block_error}
use Rattle.std.specs.Option.{option_or}
use Rattle.cord_script.specs.declared.verbs.Verb.TheVariants as verbs
use Rattle.cord_script.specs.declared.diagnosis.TheConstants.{JOINED, PRINTED}
use Rattle.cord_script.specs.declared.kinds.Kind.TheVariants as kinds
use Rattle.cord_script.specs.declared.kinds.Want.TheVariants as wants
use Rattle.cord_script.specs.inner.LineReading.{wanted_error}
use Rattle.cord_script.proofs.Unique.{within}

-- the first of two that is wrong
pub or_first : (a b : Option RefusalKind) → option_or a b ≡ first_of a b
or_first None b = refl
or_first (Some kind) b = refl

-- the first that is wrong is what is reported of the first pair, or stands after it
pub pair_step : (test : Want → Word → Option RefusalKind) (all reported : Option RefusalKind) (xs more : List Want) (ws suffix : List Word)
    (x : Want) (w : Word) → all ≡ first_pair test xs ws → xs ≡ x ∷ more → ws ≡ w ∷ suffix → reported ≡ test x w →
    all ≡ first_of reported (first_pair test more suffix)
pair_step test all reported xs more ws suffix x w a e f t =
    a ∙ ap (λ k. first_pair test k ws) e ∙ ap (first_pair test (x ∷ more)) f ∙ ap (λ k. first_of k (first_pair test more suffix)) (sym t)

-- an error of words whose number is fixed
pub words_error : (v : FixedVerb) (xs : List Want) (scope : Scope) (ws : List Word) (wrong : Option RefusalKind) →
    form_of (verb_word (verbs.Fixed v)) ≡ Some (record { shape = Words xs; effect = verb_effect (verbs.Fixed v) }) →
    wrong ≡ wanted_error (verb_effect (verbs.Fixed v)) scope xs ws →
    IfSome wrong (HasFormError scope (form_of (verb_word (verbs.Fixed v))) ws)
words_error v xs scope ws None is h = tt
words_error v xs scope ws (Some kind) is h = subst (λ form. HasFormError scope form ws kind) (sym is) (None, refl, sym h)

cords_are : (ws : List Word) → replicate (length ws) (wants.Operand kinds.Cord) ≡ cords ws
cords_are [] = refl
cords_are (w ∷ ws) = ap (λ k. wants.Operand kinds.Cord ∷ k) (cords_are ws)

pub cords_count : (ws : List Word) → length ws ≡ length (cords ws)
cords_count [] = refl
cords_count (w ∷ ws) = omega (arith, cords_count ws)

joined_are : (ws : List Word) → length ws ≤ 1 + MAX_PARTS → take (length ws) JOINED ≡ joined ws
joined_are [] few = refl
joined_are (w ∷ ws) few = ap (λ k. wants.Target kinds.Cord ∷ k)
    (take-replicate (length ws) MAX_PARTS (wants.Operand kinds.Cord) (omega (arith, few)) ∙ cords_are ws)

joined_count : (ws : List Word) → length (joined ws) ≡ length ws
joined_count [] = refl
joined_count (w ∷ ws) = omega (arith, cords_count ws)

-- a target and 2 to 16 cords
pub cords_error : (scope : Scope) (ws : List Word) (n : ℕ) (wrong : Option RefusalKind) → n ≡ length ws → 1 + MIN_PARTS ≤ n →
    n ≤ 1 + MAX_PARTS → wrong ≡ wanted_error Stays scope (take n JOINED) ws →
    IfSome wrong (HasFormError scope (Some (record { shape = Joined; effect = Stays })) ws)
cords_error scope ws n None e low high h = tt
cords_error scope ws n (Some kind) e low high h =
    let count = within (1 + MIN_PARTS) (1 + MAX_PARTS) (length ws) (omega (arith, e, low)) (omega (arith, e, high)) in
    let same : take n JOINED ≡ joined ws = ap (λ k. take k JOINED) e ∙ joined_are ws (omega (arith, e, high)) in
    let many = eq-eqb (length ws) (length (joined ws)) (sym (joined_count ws)) in
    let rest = first_of (first_misfit (joined ws) ws) (first_of (names_error scope (joined ws) ws) (block_error Stays scope.blocks)) in (
      None,
      refl,
      ap (λ b. first_of (unless b WrongCount) rest) count ∙ sym (ap (λ b. first_of (unless b WrongCount) rest) many)
          ∙ sym (ap (λ xs. wanted_error Stays scope xs ws) same) ∙ sym h,
    )

-- with a target and a format the number of words is right
counted : (ws : List Word) (rest : Option RefusalKind) → 2 ≤ length ws → first_of (unless (nat_le 2 (length ws)) WrongCount) rest ≡ rest
counted ws rest some = ap (λ b. first_of (unless b WrongCount) rest) (le-leb 2 (length ws) some)

-- the target or the format is wrong
pub prefix_error : (scope : Scope) (ws : List Word) (formats : Option (List Want)) (kind : RefusalKind) → 2 ≤ length ws →
    HasFormat Printed ws formats → first_misfit PRINTED ws ≡ Some kind → HasFormError scope
    (Some (record { shape = Printed; effect = Stays })) ws kind
prefix_error scope ws formats kind some has h = (
  formats,
  has,
  counted ws _ some ∙ preceding (first_misfit PRINTED ws) (arguments_error formats (argument_words ws)) _ kind h,
)
  where
    preceding : (a b c : Option RefusalKind) (k : RefusalKind) → a ≡ Some k → first_of (first_of a b) c ≡ Some k
    preceding (Some j) b c k e = e
    preceding None b c k e = cc

-- two more on both sides
same_test : (m n k l : ℕ) → k ≡ m + 2 → l ≡ n + 2 → (m == n) ≡ (k == l)
same_test m n k l p q = by_test (m == n) refl
  where
    by_test : (b : Bool) → (m == n) ≡ b → (m == n) ≡ (k == l)
    by_test true e = e ∙ sym (eq-eqb k l (omega (arith, eqb-true m n e, p, q)))
    by_test false e = e ∙ sym (ne_eqb k l (λ s. eqb-false m n e (omega (arith, s, p, q))))

reordered : (a b t u m r : Option RefusalKind) → first_of a (first_of b None) ≡ None → t ≡ u →
    first_of (first_of (first_of a (first_of b None)) (first_of t m)) r ≡ first_of u (first_of (first_of a (first_of b m)) r)
reordered None None None u m r fine e = ap (λ k. first_of k (first_of m r)) e
reordered None None (Some k) u m r fine e = ap (λ j. first_of j (first_of m r)) e
reordered None (Some k) t u m r fine e = cc
reordered (Some k) b t u m r fine e = cc

-- the number of the arguments or one of them is wrong, where the target and the format aren't
pub rest_error : (scope : Scope) (ws : List Word) (xs : List Want) (wrong : Option RefusalKind) → 2 ≤ length ws →
    HasFormat Printed ws (Some xs) → first_misfit PRINTED ws ≡ None →
    IfSome wrong (λ kind. wanted_error Stays scope (format_wants ++ xs) ws ≡ Some kind) →
    IfSome wrong (HasFormError scope (Some (record { shape = Printed; effect = Stays })) ws)
rest_error scope ws xs None some has fine h = tt
rest_error scope [] xs (Some kind) some has fine h = absurd (omega (arith, some))
rest_error scope (t ∷ []) xs (Some kind) some has fine h = absurd (omega (arith, some))
rest_error scope (t ∷ f ∷ ws) xs (Some kind) some has fine h =
    let same = same_test (length ws) (length xs) (length (t ∷ f ∷ ws)) (length (format_wants ++ xs)) (omega arith) (omega arith) in (
      Some xs,
      has,
      counted (t ∷ f ∷ ws) _ some ∙ reordered (misfit (wants.Target kinds.Cord) t) (misfit wants.Format f) _ _ (first_misfit xs ws) _ fine
          (ap (λ b. unless b WrongCount) same) ∙ h,
    )
