-- The words of a line say a statement, or have a first error.
use Rattle.std.specs.Prelude.{◌≡◌, ◌≢◌, ◌+◌, ◌⊎◌, ◌∷◌, ◌==◌, ◌||◌, if◌then◌else◌}
use Rattle.cord_script.proofs.Common.{inl, inr, Some, None, ℕ, List, [], Bool, true, false, refl, sym, ◌∙◌, ap, subst, map, length, arith}
use Rattle.cord_script.proofs.Common.{eqb-true, Option, nat_le, is_some, codes, ℤ, bytes_eq, leb-true, same_Some, ArgKind, wanted}
use Rattle.cord_script.proofs.Common.{FormatOrBad, MIN_PARTS, MAX_PARTS, Verb, Want, Number, Numeral, Named, Function, Digits, Bytes}
use Rattle.cord_script.proofs.Common.{Relation, Less, Equal, Greater, Argument, Word, Plain, Quoted, RefusalKind, UnknownStatement}
use Rattle.cord_script.proofs.Common.{WrongCount, BadName, BadNumber, BadFormat, Statement, Catn, Sprintf, line_of, is_name, begins_numeral}
use Rattle.cord_script.proofs.Common.{numeral_of, is_path, AreWantedBy, want_of_kind, wants_of_pieces, Grammar, Shape, Effect, Form, Term}
use Rattle.cord_script.proofs.Common.{form_in, word_of, terms_of, effect_of, argument_term, argument_want, Words, Joined, Printed, Stays}
use Rattle.cord_script.proofs.Common.{Target, Operand, Value, Literal, FilePath, Applies, Compares, Formats, Scope, Says, Suits, IsTerm}
use Rattle.cord_script.proofs.Common.{AreTerms, FitsBlocks, first_of, unless, misfit, first_pair, first_misfit, name_misfit, is_count}
use Rattle.cord_script.proofs.Common.{cords, joined, format_wants, arguments_error, words_error, wants_of, names_error, block_error}
use Rattle.cord_script.proofs.Common.{form_error, HasFormat, HasFormError, HasBadWords, verb_word, all_verbs, find_verb, and_parts}
use Rattle.cord_printf.specs.declared.pieces.ArgKind.TheVariants as printed
use Rattle.cord_script.specs.declared.verbs.Verb.TheVariants as verbs
use Rattle.cord_script.specs.declared.verbs.FixedVerb.TheVariants as fixed_verbs
use Rattle.cord_script.specs.declared.verbs.Origin.TheVariants as origins
use Rattle.cord_script.specs.declared.verbs.Composition.TheVariants as compositions
use Rattle.cord_script.specs.declared.verbs.Growth.TheVariants as growths
use Rattle.cord_script.specs.declared.verbs.Computation.TheVariants as computations
use Rattle.cord_script.specs.declared.verbs.Look.TheVariants as looks
use Rattle.cord_script.specs.declared.verbs.Control.TheVariants as controls
use Rattle.cord_script.specs.declared.kinds.Kind.TheVariants as kinds
use Rattle.cord_script.specs.declared.kinds.Want.TheVariants as wants
use Rattle.cord_operands.specs.declared.operands.Argument.TheVariants as arguments
use Rattle.cord_script.specs.Forms.{form_of}
use Rattle.cord_script.proofs.Spelled.{chosen}
use Rattle.cord_script.proofs.Checked.{neither, holds}
use Rattle.cord_script.proofs.Firsts.{same_bytes}
use Rattle.cord_script.proofs.Terms.{want_of, either}
use Rattle.cord_script.proofs.Tabled.{form_at, form_found}
use Rattle.cord_script.proofs.Allowed.{all_allowed, block_right}
use Rattle.cord_script.proofs.FormErrors.{cords_count}
use Rattle.cord_script.proofs.OneStatement.{fixed_made}

-- what a word says where this is wanted
abbrev OperandOf : Want → Type 0
OperandOf wants.Number = Number
OperandOf wants.Function = Function
OperandOf wants.Relation = Relation
OperandOf _ = List ℕ

abbrev term : (x : Want) → OperandOf x → Term
term (wants.Target kind) name = Target kind name
term (wants.Operand kind) name = Operand kind name
term wants.Number number = Value number
term wants.Text text = Literal text
term wants.Path path = FilePath path
term wants.Function function = Applies function
term wants.Relation relation = Compares relation
term wants.Format text = Formats text

abbrev OperandsOf : List Want → Type 0
OperandsOf [] = Unit {0}
OperandsOf (x ∷ xs) = OperandOf x × OperandsOf xs

abbrev terms : (xs : List Want) → OperandsOf xs → List Term
terms [] h = []
terms (x ∷ xs) h = term x h.0 ∷ terms xs h.1

pub term_wants : (x : Want) (v : OperandOf x) → want_of (term x v) ≡ x
term_wants (wants.Target kind) v = refl
term_wants _ v = refl

pub terms_want : (xs : List Want) (h : OperandsOf xs) → map want_of (terms xs h) ≡ xs
terms_want [] h = refl
terms_want (x ∷ xs) h = ap (λ k. k ∷ map want_of (terms xs h.1)) (term_wants x h.0) ∙ ap (λ k. x ∷ k) (terms_want xs h.1)

abbrev a_name : (w : Word) → name_misfit w ≡ None → (name : List ℕ) × ((w ≡ Plain name) × (is_name name ≡ true))
a_name (Plain p) h = (p, (refl, holds (is_name p) BadName h))
a_name (Quoted text) h = cc

abbrev a_value : (o : Option ℤ) → is_some o ≡ true → (v : ℤ) × (o ≡ Some v)
a_value None h = cc
a_value (Some v) h = (v, refl)

abbrev a_number : (p : List ℕ) → misfit wants.Number (Plain p) ≡ None → (n : Number) × IsTerm (Plain p) (Value n)
a_number p h = elim (chosen (begins_numeral p) (unless (is_some (numeral_of p)) BadNumber) (unless (is_name p) BadName) None h) [
  | inl x ↦ let v = a_value (numeral_of p) (holds (is_some (numeral_of p)) BadNumber x.1) in
      (Numeral v.0, (p, refl, v.1))
  | inr x ↦ (Named p, (refl, holds (is_name p) BadName x.1))
]

abbrev a_function : (p : List ℕ) → misfit wants.Function (Plain p) ≡ None → (f : Function) × IsTerm (Plain p) (Applies f)
a_function p h = elim (either (bytes_eq p (codes "digits")) (bytes_eq p (codes "bytes"))
    (holds (bytes_eq p (codes "digits") || bytes_eq p (codes "bytes")) BadName h)) [
      | inl e ↦ (Digits, ap Plain (same_bytes p (codes "digits") e))
      | inr e ↦ (Bytes, ap Plain (same_bytes p (codes "bytes") e))
    ]

abbrev a_relation : (p : List ℕ) → misfit wants.Relation (Plain p) ≡ None → (r : Relation) × IsTerm (Plain p) (Compares r)
a_relation p h = elim (either (bytes_eq p (codes "lt") || bytes_eq p (codes "eq")) (bytes_eq p (codes "gt"))
    (holds (bytes_eq p (codes "lt") || bytes_eq p (codes "eq") || bytes_eq p (codes "gt")) BadName h)) [
      | inl x ↦ elim (either (bytes_eq p (codes "lt")) (bytes_eq p (codes "eq")) x) [
        | inl e ↦ (Less, ap Plain (same_bytes p (codes "lt") e))
        | inr e ↦ (Equal, ap Plain (same_bytes p (codes "eq") e))
      ]
      | inr e ↦ (Greater, ap Plain (same_bytes p (codes "gt") e))
    ]

-- a word without a misfit says something
abbrev word_says : (x : Want) (w : Word) → misfit x w ≡ None → (v : OperandOf x) × IsTerm w (term x v)
word_says (wants.Target kind) w h = a_name w h
word_says (wants.Operand kind) w h = a_name w h
word_says wants.Number (Plain p) h = a_number p h
word_says wants.Text (Quoted text) h = (text, refl)
word_says wants.Path (Quoted path) h = (path, (refl, holds (is_path path) BadName h))
word_says wants.Function (Plain p) h = a_function p h
word_says wants.Relation (Plain p) h = a_relation p h
word_says wants.Format (Quoted text) h = (text, refl)
word_says _ _ h = cc

-- as many words as are wanted, without a misfit
abbrev words_say : (xs : List Want) (ws : List Word) → length ws ≡ length xs → first_misfit xs ws ≡ None → (h : OperandsOf xs) ×
    AreTerms ws (terms xs h)
words_say [] [] e h = (tt, tt)
words_say (x ∷ xs) (w ∷ ws) e h =
    let r = neither (misfit x w) (first_pair misfit xs ws) h in
    let first = word_says x w r.0 in
    let others = words_say xs ws (omega (arith, e)) r.1 in
    ((first.0, others.0), (first.1, others.1))
words_say _ _ e h = absurd (omega (arith, e))

-- a statement with this word that the words after it say
pub record IsFilled (word : List ℕ) (form : Form) (n : ℕ) (ws : List Word) (formats : Option (List Want)) : Type 0 where
  pub statement : Statement
  pub named : word_of statement ≡ word
  pub leads : effect_of statement ≡ form.effect
  pub line : line_of statement ≡ n
  pub terms : AreTerms ws (terms_of statement)
  pub wanted : wants_of form.shape formats ws ≡ map want_of (terms_of statement)
  pub suits : Suits statement

-- words after a statement's word, of the right number and without a misfit, say a statement, if the word has a form
abbrev Fills : List ℕ → ℕ → List Word → Option Form → Type 0
Fills word n ws None = Unit {0}
Fills word n ws (Some form) = (formats : Option (List Want)) → HasFormat form.shape ws formats → is_count form.shape (length ws) ≡ true →
    words_error form.shape formats ws ≡ None → IsFilled word form n ws formats

-- what was made is a statement with this word and these terms
abbrev IsMade : List ℕ → Effect → ℕ → List Term → Option Statement → Type 0
IsMade word effect n ts None = ⊥
IsMade word effect n ts (Some s) = (word_of s ≡ word) × (effect_of s ≡ effect) × (line_of s ≡ n) × (terms_of s ≡ ts) × Suits s

-- words of a fixed number
abbrev fixed : {word : List ℕ} {effect : Effect} {xs : List Want} (n : ℕ) (ws : List Word) →
    ((h : OperandsOf xs) → IsMade word effect n (terms xs h) (fixed_made word n (terms xs h))) →
    Fills word n ws (Some (record { shape = Words xs; effect = effect }))
fixed {word = word} {effect = effect} {xs = xs} n ws make = λ formats has count fit.
    let said = words_say xs ws (eqb-true (length ws) (length xs) count) fit in
    by_made said.0 said.1 formats (fixed_made word n (terms xs said.0)) (make said.0)
  where
    by_made : (h : OperandsOf xs) → AreTerms ws (terms xs h) → (formats : Option (List Want)) (o : Option Statement) →
        IsMade word effect n (terms xs h) o → IsFilled word (record { shape = Words xs; effect = effect }) n ws formats
    by_made h says formats None made = absurd made
    by_made h says formats (Some s) (named, leads, line, are, suits) = record {
      statement = s;
      named = named;
      leads = leads;
      line = line;
      terms = subst (AreTerms ws) (sym are) says;
      wanted = sym (ap (map want_of) are ∙ terms_want xs h);
      suits = suits;
    }

-- the names of cords
abbrev cord_names : (ws : List Word) (h : OperandsOf (cords ws)) → (names : List (List ℕ)) × (terms (cords ws) h ≡ map (Operand kinds.Cord) names) ×
    (length names ≡ length ws)
cord_names [] h = ([], refl, refl)
cord_names (w ∷ ws) h =
    let r = cord_names ws h.1 in
    (h.0 ∷ r.0, ap (λ k. Operand kinds.Cord h.0 ∷ k) r.1, omega (arith, r.2))

-- a target and 2 to 16 cords
abbrev joined_filled : (n : ℕ) (ws : List Word) (formats : Option (List Want)) → is_count Joined (length ws) ≡ true →
    first_misfit (joined ws) ws ≡ None → IsFilled (codes "catn") (record { shape = Joined; effect = Stays }) n ws formats
joined_filled n [] formats count fit = cc
joined_filled n (w ∷ ws) formats count fit =
    let r = neither (name_misfit w) (first_pair misfit (cords ws) ws) fit in
    let target = a_name w r.0 in
    let said = words_say (cords ws) ws (cords_count ws) r.1 in
    let names = cord_names ws said.0 in
    let bounds = and_parts (nat_le (1 + MIN_PARTS) (length (w ∷ ws))) (nat_le (length (w ∷ ws)) (1 + MAX_PARTS)) count in
    let low = leb-true (1 + MIN_PARTS) (length (w ∷ ws)) bounds.0 in
    let high = leb-true (length (w ∷ ws)) (1 + MAX_PARTS) bounds.1 in
    record {
      statement = Catn n target.0 names.0;
      named = refl;
      leads = refl;
      line = refl;
      terms = (target.1, subst (AreTerms ws) names.1 said.1);
      wanted = ap (λ k. wants.Target kinds.Cord ∷ k) (sym (ap (map want_of) (sym names.1) ∙ terms_want (cords ws) said.0));
      suits = (omega (arith, low, names.2), omega (arith, high, names.2));
    }

-- the arguments of conversions
abbrev arguments_given : (ks : List ArgKind) (h : OperandsOf (map want_of_kind ks)) → (args : List Argument) ×
    (terms (map want_of_kind ks) h ≡ map argument_term args) × (map argument_want args ≡ map want_of_kind ks)
arguments_given [] h = ([], refl, refl)
arguments_given (printed.Number ∷ ks) h =
    let r = arguments_given ks h.1 in
    (arguments.Number h.0 ∷ r.0, ap (λ k. Value h.0 ∷ k) r.1, ap (λ k. wants.Number ∷ k) r.2)
arguments_given (printed.Cord ∷ ks) h =
    let r = arguments_given ks h.1 in
    (arguments.Cord h.0 ∷ r.0, ap (λ k. Operand kinds.Cord h.0 ∷ k) r.1, ap (λ k. wants.Operand kinds.Cord ∷ k) r.2)

pub no_format : (o : Option RefusalKind) (ws : List Word) → first_of o (arguments_error None ws) ≡ None → ⊥
no_format o ws h = let wrong = (neither o (Some BadFormat) h).1 in cc

-- a target, a format and what its conversions want
abbrev printed_filled : (n : ℕ) (ws : List Word) (formats : Option (List Want)) → HasFormat Printed ws formats →
    is_count Printed (length ws) ≡ true → words_error Printed formats ws ≡ None → IsFilled (codes "sprintf") (record { shape = Printed; effect = Stays }) n ws formats
printed_filled n [] formats has count fit = cc
printed_filled n (w ∷ []) formats has count fit = cc
printed_filled n (w ∷ x ∷ ws) None has count fit = absurd (no_format (first_misfit format_wants (w ∷ x ∷ ws)) ws fit)
printed_filled n (w ∷ Plain p ∷ ws) (Some xs) has count fit = cc
printed_filled n (w ∷ Quoted text ∷ ws) (Some xs) has count fit =
    let ks = wanted has.0 in
    let r = neither (first_misfit format_wants (w ∷ Quoted text ∷ ws)) (arguments_error (Some xs) ws) fit in
    let target = a_name w (neither (name_misfit w) (first_pair misfit (wants.Format ∷ []) (Quoted text ∷ ws)) r.0).0 in
    let q = neither (unless (length ws == length xs) WrongCount) (first_misfit xs ws) r.1 in
    let number = eqb-true (length ws) (length xs) (holds (length ws == length xs) WrongCount q.0) in
    let said = words_say (map want_of_kind ks) ws (number ∙ ap length has.2) (ap (λ k. first_misfit k ws) (sym has.2) ∙ q.1) in
    let args = arguments_given ks said.0 in
    let others : xs ≡ map want_of (map argument_term args.0) =
    has.2 ∙ sym (terms_want (map want_of_kind ks) said.0) ∙ ap (map want_of) args.1 in
    record {
      statement = Sprintf n target.0 text has.0 args.0;
      named = refl;
      leads = refl;
      line = refl;
      terms = (target.1, (refl, subst (AreTerms ws) args.1 said.1));
      wanted = ap (λ k. wants.Target kinds.Cord ∷ wants.Format ∷ k) others;
      suits = (has.1, args.2);
    }

-- words after a verb's word, of the right number and without a misfit, say a statement
abbrev pub filled : (v : Verb) (n : ℕ) (ws : List Word) → Fills (verb_word v) n ws (form_of (verb_word v))
unfolding form_of
filled verbs.Catn n ws = λ formats has count fit. joined_filled n ws formats count fit
filled verbs.Sprintf n ws = λ formats has count fit. printed_filled n ws formats has count fit
filled (verbs.Fixed (fixed_verbs.Origin origins.Let)) n ws = fixed n ws (λ h. (refl, refl, refl, refl, tt))
filled (verbs.Fixed (fixed_verbs.Composition compositions.Chars)) n ws = fixed n ws (λ h. (refl, refl, refl, refl, tt))
filled (verbs.Fixed (fixed_verbs.Computation computations.Len)) n ws = fixed n ws (λ h. (refl, refl, refl, refl, tt))
filled (verbs.Fixed (fixed_verbs.Look looks.Fetch)) n ws = fixed n ws (λ h. (refl, refl, refl, refl, tt))
filled (verbs.Fixed (fixed_verbs.Growth growths.EcInit)) n ws = fixed n ws (λ h. (refl, refl, refl, refl, tt))
filled (verbs.Fixed (fixed_verbs.Control controls.Repeat)) n ws = fixed n ws (λ h. (refl, refl, refl, refl, tt))
filled v n ws = fixed n ws (λ h. (refl, refl, refl, refl, tt))

-- what the conversions of the format want
abbrev converts_of : FormatOrBad → (text : List ℕ) → (formats : Option (List Want)) × AreWantedBy text formats
converts_of law text = elim (law text) [
  | inl h ↦ (Some (wants_of_pieces h.0), (h.0, h.1, refl))
  | inr h ↦ (None, h)
]

abbrev formats_of : FormatOrBad → (shape : Shape) (ws : List Word) → (formats : Option (List Want)) × HasFormat shape ws formats
formats_of law Printed (t ∷ Quoted text ∷ ws) = converts_of law text
formats_of law _ _ = (None, refl)

abbrev SaysOrBad : Grammar → ℕ → Scope → List Word → Type 0
SaysOrBad g n scope words = ((s : Statement) × Says g n scope words s) ⊎ ((kind : RefusalKind) × HasBadWords g scope words kind)

-- the words after a verb have no error
abbrev well_said : (g : Grammar) (n : ℕ) (scope : Scope) (p : List ℕ) (ws : List Word) (v : Verb) (form : Form) (formats : Option (List Want)) →
    g.has p ≡ true → p ≡ verb_word v → form_of (verb_word v) ≡ Some form → HasFormat form.shape ws formats →
    form_error form scope formats ws ≡ None → (s : Statement) × Says g n scope (Plain p ∷ ws) s
well_said g n scope p ws v form formats has spelled is format fine =
    let shape = form.shape in
    let names = names_error scope (wants_of shape formats ws) ws in
    let blocks = block_error form.effect scope.blocks in
    let a = neither (unless (is_count shape (length ws)) WrongCount)
    (first_of (words_error shape formats ws) (first_of names blocks)) fine in
    let b = neither (words_error shape formats ws) (first_of names blocks) a.1 in
    let c = neither names blocks b.1 in
    let f = subst (Fills (verb_word v) n ws) is (filled v n ws) formats format (holds (is_count shape (length ws)) WrongCount a.0) b.0 in
    let known = ap (λ k. names_error scope k ws) (sym f.wanted) ∙ c.0 in (
      f.statement,
      record {
        has = ap g.has (f.named ∙ sym spelled) ∙ has;
        line = f.line;
        others = ws;
        word = ap (λ k. Plain k ∷ ws) (spelled ∙ sym f.named);
        terms = f.terms;
        suits = f.suits;
        allowed = all_allowed scope ws (terms_of f.statement) f.terms known;
        blocks = subst (λ k. FitsBlocks k scope.blocks) (sym f.leads) (block_right form.effect scope.blocks c.1);
      },
    )

pub bad_form : (g : Grammar) (scope : Scope) (p : List ℕ) (ws : List Word) (form : Option Form) (kind : RefusalKind) → form_in g p ≡ form →
    HasFormError scope form ws kind → HasBadWords g scope (Plain p ∷ ws) kind
bad_form g scope p ws form kind e h = subst (λ k. HasFormError scope k ws kind) (sym e) h

abbrev verb_by : (g : Grammar) (n : ℕ) (scope : Scope) (p : List ℕ) (ws : List Word) (v : Verb) (form : Form) (formats : Option (List Want))
    (first_error : Option RefusalKind) → g.has p ≡ true → p ≡ verb_word v → form_of (verb_word v) ≡ Some form → form_in g p ≡ Some form →
    HasFormat form.shape ws formats → form_error form scope formats ws ≡ first_error → SaysOrBad g n scope (Plain p ∷ ws)
verb_by g n scope p ws v form formats None has spelled is reported format e = inl
    (well_said g n scope p ws v form formats has spelled is format e)
verb_by g n scope p ws v form formats (Some kind) has spelled is reported format e =
    inr (kind, bad_form g scope p ws (Some form) kind reported (formats, format, e))

-- the words after a verb say a statement, or have an error
abbrev verb_says : FormatOrBad → (g : Grammar) (n : ℕ) (scope : Scope) (p : List ℕ) (ws : List Word) (v : Verb) (form : Option Form) →
    g.has p ≡ true → p ≡ verb_word v → form_of (verb_word v) ≡ form → form_in g p ≡ form → SaysOrBad g n scope (Plain p ∷ ws)
verb_says law g n scope p ws v None has spelled is reported =
    inr (UnknownStatement, bad_form g scope p ws None UnknownStatement reported refl)
verb_says law g n scope p ws v (Some form) has spelled is reported =
    let formats = formats_of law form.shape ws in
    verb_by g n scope p ws v form formats.0 (form_error form scope formats.0 ws) has spelled is reported formats.1 refl

-- a verb that is found has the word
pub spelled_so : (vs : List Verb) (p : List ℕ) (v : Verb) → find_verb vs p ≡ Some v → p ≡ verb_word v
spelled_so [] p v h = cc
spelled_so (x ∷ xs) p v h = elim (chosen (bytes_eq p (verb_word x)) (Some x) (find_verb xs p) (Some v) h) [
  | inl y ↦ same_bytes p (verb_word x) y.0 ∙ ap verb_word (same_Some x v y.1)
  | inr y ↦ spelled_so xs p v y.1
]

abbrev allowed_says : FormatOrBad → (g : Grammar) (n : ℕ) (scope : Scope) (p : List ℕ) (ws : List Word) (found : Option Verb) → g.has p ≡ true →
    find_verb all_verbs p ≡ found → form_in g p ≡ form_of p → SaysOrBad g n scope (Plain p ∷ ws)
allowed_says law g n scope p ws None has e form =
    inr (UnknownStatement, bad_form g scope p ws None UnknownStatement (form ∙ sym (form_found p) ∙ ap form_at e) refl)
allowed_says law g n scope p ws (Some v) has e form =
    let spelled = spelled_so all_verbs p v e in
    verb_says law g n scope p ws v (form_of (verb_word v)) has spelled refl (form ∙ ap form_of spelled)

abbrev word_by : FormatOrBad → (g : Grammar) (n : ℕ) (scope : Scope) (p : List ℕ) (ws : List Word) (x : Bool) → g.has p ≡ x →
    SaysOrBad g n scope (Plain p ∷ ws)
word_by law g n scope p ws true has = allowed_says law g n scope p ws (find_verb all_verbs p) has refl
    (ap (λ b. if b then form_of p else None) has)
word_by law g n scope p ws false has =
    inr (UnknownStatement, bad_form g scope p ws None UnknownStatement (ap (λ b. if b then form_of p else None) has) refl)

-- words say a statement, or have an error
abbrev pub says_or_bad : FormatOrBad → (g : Grammar) (n : ℕ) (scope : Scope) (words : List Word) → words ≢ [] → SaysOrBad g n scope words
says_or_bad law g n scope [] some = absurd (some refl)
says_or_bad law g n scope (Quoted text ∷ ws) some = inr (UnknownStatement, refl)
says_or_bad law g n scope (Plain p ∷ ws) some = word_by law g n scope p ws (g.has p) refl
