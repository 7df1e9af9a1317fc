-- Words say one statement, and then have no error.
use Rattle.std.specs.Prelude.{◌≡◌, ◌≤◌, ◌+◌, ◌∷◌, ◌==◌, if◌then◌else◌}
use Rattle.cord_script.proofs.Common.{Some, None, ℕ, suc, List, [], Bool, true, refl, sym, ◌∙◌, ap, subst, length, arith, eq-eqb, Option}
use Rattle.cord_script.proofs.Common.{map, length-map, codes, le-leb, bytes_eq, Piece, OneFormat, BadIsNoFormat, MAX_BLOCKS, MIN_PARTS, MAX_PARTS, Want}
use Rattle.cord_script.proofs.Common.{Argument, Word, Plain, Quoted, Statement, Let, File, Eager, Lazy, Chars, Nul, FromFn, Cat, Catn, Catc}
use Rattle.cord_script.proofs.Common.{Substr, Balance, EcToCord, Sprintf, Len, Fetch, Cmp, Ncmp, Str, Chr, Rchr, Assign, Add, Sub, EcInit}
use Rattle.cord_script.proofs.Common.{EcPut, EcCat, EcStr, Put, Repeat, If, Else, End, RefusalKind, WrongCount, TooDeep, line_of, Grammar}
use Rattle.cord_script.proofs.Common.{Shape, Form, Effect, Term, form_in, word_of, terms_of, effect_of, argument_term, argument_want, Words}
use Rattle.cord_script.proofs.Common.{Joined, Printed, Stays, OpensRepeat, OpensIf, Turns, Closes, Target, Operand, Value, Literal}
use Rattle.cord_script.proofs.Common.{FilePath, Applies, Compares, Formats, AreWantedBy, want_of_kind, Scope, Block, Says, Suits, AreTerms}
use Rattle.cord_script.proofs.Common.{FitsBlocks, first_of, unless, misfit, first_pair, is_count, cords, wants_of, words_error, else_error}
use Rattle.cord_script.proofs.Common.{block_error, names_error, form_error, HasFormat, HasFormError, HasBadWords}
use Rattle.cord_printf.specs.Format.{IsFormat}
use Rattle.cord_script.specs.declared.kinds.Kind.TheVariants as kinds
use Rattle.cord_script.specs.declared.kinds.Want.TheVariants as wants
use Rattle.cord_operands.specs.declared.operands.Argument.TheVariants as arguments
use Rattle.cord_script.specs.Forms.{form_of}
use Rattle.cord_script.proofs.Checked.{neither}
use Rattle.cord_script.proofs.Unique.{within}
use Rattle.cord_script.proofs.Allowed.{none_wrong}
use Rattle.cord_script.proofs.Terms.{want_of, words_fit, terms_count, one_list}

-- The form of a statement's word, with what its words have to be.
pub record IsRightForm (others : List Word) (s : Statement) : Type 0 where
  pub form : Form
  pub is : form_of (word_of s) ≡ Some form
  pub effect : form.effect ≡ effect_of s
  pub formats : Option (List Want)
  pub has : HasFormat form.shape others formats
  pub wants : wants_of form.shape formats others ≡ map want_of (terms_of s)
  pub count : is_count form.shape (length others) ≡ true
  pub words : first_pair misfit (map want_of (terms_of s)) others ≡ None → words_error form.shape formats others ≡ None

right_words : (others : List Word) (s : Statement) → form_of (word_of s)
    ≡ Some (record { shape = Words (map want_of (terms_of s)); effect = effect_of s }) → AreTerms others (terms_of s) → IsRightForm others s
right_words others s is h =
    let number : length others ≡ length (map want_of (terms_of s)) = terms_count others (terms_of s) h ∙ sym (length-map (terms_of s) want_of) in
    record {
      form = record { shape = Words (map want_of (terms_of s)); effect = effect_of s };
      is = is;
      effect = refl;
      formats = None;
      has = refl;
      wants = refl;
      count = eq-eqb (length others) (length (map want_of (terms_of s))) number;
      words = λ m. m;
    }

cords_are : (ws : List Word) (parts : List (List ℕ)) → AreTerms ws (map (Operand kinds.Cord) parts) →
    (cords ws ≡ map want_of (map (Operand kinds.Cord) parts)) × (length ws ≡ length parts)
cords_are [] [] h = (refl, refl)
cords_are (w ∷ ws) (p ∷ ps) h =
    let r = cords_are ws ps h.1 in
    (ap (λ k. wants.Operand kinds.Cord ∷ k) r.0, omega (arith, r.1))
cords_are _ _ h = absurd h

right_catn : (others : List Word) (n : ℕ) (target : List ℕ) (parts : List (List ℕ)) →
    form_of (codes "catn") ≡ Some (record { shape = Joined; effect = Stays }) →
    AreTerms others (Target kinds.Cord target ∷ map (Operand kinds.Cord) parts) → Suits (Catn n target parts) →
    IsRightForm others (Catn n target parts)
right_catn [] n target parts is h suits = absurd h
right_catn (w ∷ ws) n target parts is h suits =
    let r = cords_are ws parts h.1 in
    let same : wants.Target kinds.Cord ∷ cords ws ≡ wants.Target kinds.Cord ∷ map want_of (map (Operand kinds.Cord) parts) =
    ap (λ k. wants.Target kinds.Cord ∷ k) r.0 in
    let low : 1 + MIN_PARTS ≤ length (w ∷ ws) = omega (arith, r.1, suits.0) in
    let high : length (w ∷ ws) ≤ 1 + MAX_PARTS = omega (arith, r.1, suits.1) in
    record {
      form = record { shape = Joined; effect = Stays };
      is = is;
      effect = refl;
      formats = None;
      has = refl;
      wants = same;
      count = within (1 + MIN_PARTS) (1 + MAX_PARTS) (length (w ∷ ws)) low high;
      words = λ m. ap (λ xs. first_pair misfit xs (w ∷ ws)) same ∙ m;
    }

arguments_are : (ws : List Word) (args : List Argument) → AreTerms ws (map argument_term args) →
    (map want_of (map argument_term args) ≡ map argument_want args) × (length ws ≡ length (map argument_want args))
arguments_are [] [] h = (refl, refl)
arguments_are (w ∷ ws) (arguments.Number n ∷ more) h =
    let r = arguments_are ws more h.1 in
    (ap (λ k. wants.Number ∷ k) r.0, omega (arith, r.1))
arguments_are (w ∷ ws) (arguments.Cord name ∷ more) h =
    let r = arguments_are ws more h.1 in
    (ap (λ k. wants.Operand kinds.Cord ∷ k) r.0, omega (arith, r.1))
arguments_are _ _ h = absurd h

print_none : (a b c d : Option RefusalKind) (x : Bool) → a ≡ None → b ≡ None → x ≡ true → c ≡ None →
    first_of (first_of a (first_of b None)) (first_of (unless x WrongCount) c) ≡ None
print_none None None None d true ea eb ex ec = refl
print_none _ _ _ d _ ea eb ex ec = cc

right_sprintf : (others : List Word) (n : ℕ) (target text : List ℕ) (format : List Piece) (args : List Argument) →
    form_of (codes "sprintf") ≡ Some (record { shape = Printed; effect = Stays }) →
    AreTerms others (Target kinds.Cord target ∷ Formats text ∷ map argument_term args) → Suits (Sprintf n target text format args) →
    IsRightForm others (Sprintf n target text format args)
right_sprintf [] n target text format args is h suits = absurd h
right_sprintf (w ∷ []) n target text format args is h suits = absurd h.1
right_sprintf (w ∷ x ∷ ws) n target text format args is h suits =
    let quoted : x ≡ Quoted text = h.1.0 in
    let r = arguments_are ws args h.1.1 in
    let xs = map argument_want args in
    let two : 2 ≤ length (w ∷ x ∷ ws) = omega arith in
    record {
      form = record { shape = Printed; effect = Stays };
      is = is;
      effect = refl;
      formats = Some xs;
      has = subst (λ k. HasFormat Printed (w ∷ k ∷ ws) (Some xs)) (sym quoted) (format, suits.0, suits.1);
      wants = ap (λ k. wants.Target kinds.Cord ∷ wants.Format ∷ k) (sym r.0);
      count = le-leb 2 (length (w ∷ x ∷ ws)) two;
      words = λ m.
          let p = neither (misfit (wants.Target kinds.Cord) w)
          (first_of (misfit wants.Format x) (first_pair misfit (map want_of (map argument_term args)) ws)) m in
          let q = neither (misfit wants.Format x) (first_pair misfit (map want_of (map argument_term args)) ws) p.1 in
          print_none (misfit (wants.Target kinds.Cord) w) (misfit wants.Format x) (first_pair misfit xs ws) None
          (length ws == length xs) p.0 q.0 (eq-eqb (length ws) (length xs) r.1) (ap (λ k. first_pair misfit k ws) (sym r.0) ∙ q.1);
    }

-- words that say a statement have the form of its word
pub right_form : (others : List Word) (s : Statement) → AreTerms others (terms_of s) → Suits s → IsRightForm others s
unfolding form_of
right_form others (Catn n target parts) h suits = right_catn others n target parts refl h suits
right_form others (Sprintf n target text format arguments) h suits = right_sprintf others n target text format arguments refl h suits
right_form others s h suits = right_words others s refl h

all_none : (a b c d : Option RefusalKind) → a ≡ None → b ≡ None → c ≡ None → d ≡ None → first_of a (first_of b (first_of c d)) ≡ None
all_none None None None None ea eb ec ed = refl
all_none _ _ _ _ ea eb ec ed = cc

block_none : (effect : Effect) (blocks : List Block) → FitsBlocks effect blocks → block_error effect blocks ≡ None
block_none Stays blocks h = refl
block_none OpensRepeat blocks h = ap (λ b. unless b TooDeep) (le-leb (suc (length blocks)) MAX_BLOCKS h)
block_none OpensIf blocks h = ap (λ b. unless b TooDeep) (le-leb (suc (length blocks)) MAX_BLOCKS h)
block_none Turns blocks h = ap else_error h.2
block_none Closes [] h = absurd (h refl)
block_none Closes (block ∷ blocks) h = refl

-- words that say a statement have no error
fine_form : (g : Grammar) (n : ℕ) (scope : Scope) (words : List Word) (s : Statement) (says : Says g n scope words s)
    (r : IsRightForm says.others s) → form_error r.form scope r.formats says.others ≡ None
fine_form g n scope words s says r =
    let ts = terms_of s in
    let others = says.others in
    all_none (unless (is_count r.form.shape (length others)) WrongCount) (words_error r.form.shape r.formats others)
    (names_error scope (wants_of r.form.shape r.formats others) others) (block_error r.form.effect scope.blocks)
    (ap (λ b. unless b WrongCount) r.count)
    (r.words (words_fit others ts says.terms))
    (ap (λ k. names_error scope k others) r.wants ∙ none_wrong scope others ts says.terms says.allowed)
    (ap (λ e. block_error e scope.blocks) r.effect ∙ block_none (effect_of s) scope.blocks says.blocks)

-- a text is a format in one way
one_conversion : OneFormat → BadIsNoFormat → (text : List ℕ) (f f' : Option (List Want)) → AreWantedBy text f → AreWantedBy text f' → f ≡ f'
one_conversion one bad text (Some xs) (Some ys) h h' = ap Some (h.2 ∙ ap (λ k. map want_of_kind (Rattle.cord_printf.specs.Pieces.wanted k))
    (one text h.0 h'.0 h.1 h'.1) ∙ sym h'.2)
one_conversion one bad text (Some xs) None h h' = absurd (bad text h'.0 h'.1 h.0 h.1)
one_conversion one bad text None (Some ys) h h' = absurd (bad text h.0 h.1 h'.0 h'.1)
one_conversion one bad text None None h h' = refl

pub one_format : OneFormat → BadIsNoFormat → (shape : Shape) (ws : List Word) (f f' : Option (List Want)) → HasFormat shape ws f →
    HasFormat shape ws f' → f ≡ f'
one_format one bad Printed (t ∷ Quoted text ∷ ws) f f' h h' = one_conversion one bad text f f' h h'
one_format one bad _ _ f f' h h' = h ∙ sym h'

in_grammar : (g : Grammar) (w : List ℕ) → g.has w ≡ true → form_in g w ≡ form_of w
in_grammar g w h = ap (λ b. if b then form_of w else None) h

-- words that say a statement have no error
pub good_words : OneFormat → BadIsNoFormat → (g : Grammar) (n : ℕ) (scope : Scope) (words : List Word) (s : Statement)
    (kind : RefusalKind) → Says g n scope words s → HasBadWords g scope words kind → ⊥
good_words one bad g n scope words s kind says h =
    let r = right_form says.others s says.terms says.suits in
    let at = subst (λ ws. HasBadWords g scope ws kind) says.word h in
    let f = subst (λ k. HasFormError scope k says.others kind) (in_grammar g (word_of s) says.has ∙ r.is) at in
    let formats = one_format one bad r.form.shape says.others f.0 r.formats f.1 r.has in
    let clash : None ≡ Some kind =
    sym (fine_form g n scope words s says r) ∙ ap (λ k. form_error r.form scope k says.others) (sym formats) ∙ f.2 in
    cc

one_form_error : OneFormat → BadIsNoFormat → (scope : Scope) (f : Option Form) (ws : List Word) (kind kind' : RefusalKind) →
    HasFormError scope f ws kind → HasFormError scope f ws kind' → kind ≡ kind'
one_form_error one bad scope None ws kind kind' h h' = h ∙ sym h'
one_form_error one bad scope (Some form) ws kind kind' h h' =
    let formats = one_format one bad form.shape ws h.0 h'.0 h.1 h'.1 in
    let same : Some kind ≡ Some kind' = sym h.2 ∙ ap (λ k. form_error form scope k ws) formats ∙ h'.2 in
    cc

-- words have one first error
pub one_bad_words : OneFormat → BadIsNoFormat → (g : Grammar) (scope : Scope) (words : List Word) (kind kind' : RefusalKind) →
    HasBadWords g scope words kind → HasBadWords g scope words kind' → kind ≡ kind'
one_bad_words one bad g scope [] kind kind' h h' = absurd h
one_bad_words one bad g scope (Quoted text ∷ ws) kind kind' h h' = h ∙ sym h'
one_bad_words one bad g scope (Plain p ∷ ws) kind kind' h h' = one_form_error one bad scope (form_in g p) ws kind kind' h h'

-- the pieces of a statement's format
abbrev pieces_of : Statement → List Piece
pieces_of (Sprintf n target text format arguments) = format
pieces_of _ = []

-- the pieces are those of the format among these terms
abbrev IsPrinted : List Term → List Piece → Type 0
IsPrinted (Target kind target ∷ Formats text ∷ ts) pieces = IsFormat text pieces
IsPrinted ts pieces = pieces ≡ []

printed_catn : (target : List ℕ) (parts : List (List ℕ)) → IsPrinted (Target kinds.Cord target ∷ map (Operand kinds.Cord) parts) []
printed_catn target [] = refl
printed_catn target (p ∷ ps) = refl

printed : (s : Statement) → Suits s → IsPrinted (terms_of s) (pieces_of s)
printed (Catn n target parts) suits = printed_catn target parts
printed (Sprintf n target text format arguments) suits = suits.0
printed _ suits = refl

one_printed : OneFormat → (ts : List Term) (p q : List Piece) → IsPrinted ts p → IsPrinted ts q → p ≡ q
one_printed one (Target kind target ∷ Formats text ∷ ts) p q h h' = one text p q h h'
one_printed one _ p q h h' = h ∙ sym h'

-- The statement of a word, a line and terms, where the number of terms is fixed: by what they say, and by the word where
-- that leaves a choice.
abbrev pub fixed_made : List ℕ → ℕ → List Term → Option Statement
fixed_made w n (Target k target ∷ Literal text ∷ []) = Some (Let n target text)
fixed_made w n (Target k target ∷ FilePath path ∷ []) =
    if bytes_eq w (codes "file") then Some (File n target path)
    else if bytes_eq w (codes "eager") then Some (Eager n target path)
    else Some (Lazy n target path)
fixed_made w n (Target kinds.Cord target ∷ Value byte ∷ Value count ∷ []) = Some (Chars n target byte count)
fixed_made w n (Target k target ∷ Value left ∷ Value right ∷ []) =
    if bytes_eq w (codes "add") then Some (Add n target left right) else Some (Sub n target left right)
fixed_made w n (Target kinds.Cord target ∷ Value count ∷ []) = Some (Nul n target count)
fixed_made w n (Target k target ∷ Value value ∷ []) = Some (Assign n target value)
fixed_made w n (Target k target ∷ Applies function ∷ Value count ∷ []) = Some (FromFn n target function count)
fixed_made w n (Target kinds.Cord target ∷ Operand k left ∷ Operand l right ∷ []) = Some (Cat n target left right)
fixed_made w n (Target j target ∷ Operand k left ∷ Operand l right ∷ []) = Some (Cmp n target left right)
fixed_made w n (Target kinds.Cord target ∷ Operand k operand ∷ Value byte ∷ []) = Some (Catc n target operand byte)
fixed_made w n (Target j target ∷ Operand k operand ∷ Value index ∷ []) = Some (Fetch n target operand index)
fixed_made w n (Target kinds.Cord target ∷ Operand k operand ∷ Value start ∷ Value count ∷ []) = Some (Substr n target operand start count)
fixed_made w n (Target j target ∷ Operand k operand ∷ Value start ∷ Value byte ∷ []) =
    if bytes_eq w (codes "chr") then Some (Chr n target operand start byte) else Some (Rchr n target operand start byte)
fixed_made w n (Target kinds.Cord target ∷ Operand kinds.Extensible extensible ∷ []) = Some (EcToCord n target extensible)
fixed_made w n (Target kinds.Cord target ∷ Operand k operand ∷ []) = Some (Balance n target operand)
fixed_made w n (Target j target ∷ Operand k operand ∷ []) = Some (Len n target operand)
fixed_made w n (Target j target ∷ Operand k left ∷ Value left_start ∷ Operand l right ∷ Value right_start ∷ Value count ∷ []) =
    Some (Ncmp n target left left_start right right_start count)
fixed_made w n (Target j target ∷ Operand k operand ∷ Value start ∷ Operand l pattern ∷ []) = Some (Str n target operand start pattern)
fixed_made w n (Target k target ∷ []) = Some (EcInit n target)
fixed_made w n (Operand k extensible ∷ Value byte ∷ []) = Some (EcPut n extensible byte)
fixed_made w n (Operand k extensible ∷ Operand l operand ∷ []) = Some (EcCat n extensible operand)
fixed_made w n (Operand k extensible ∷ Literal text ∷ []) = Some (EcStr n extensible text)
fixed_made w n (Operand k operand ∷ []) = Some (Put n operand)
fixed_made w n (Value count ∷ []) = Some (Repeat n count)
fixed_made w n (Value left ∷ Compares relation ∷ Value right ∷ []) = Some (If n left relation right)
fixed_made w n [] = if bytes_eq w (codes "else") then Some (Else n) else Some (End n)
fixed_made w n _ = None

-- the names among terms
abbrev names_in : List Term → List (List ℕ)
names_in [] = []
names_in (Operand k name ∷ ts) = name ∷ names_in ts
names_in (_ ∷ ts) = names_in ts

names_back : (parts : List (List ℕ)) → names_in (map (Operand kinds.Cord) parts) ≡ parts
names_back [] = refl
names_back (p ∷ ps) = ap (λ k. p ∷ k) (names_back ps)

-- the arguments among terms
abbrev arguments_in : List Term → List Argument
arguments_in [] = []
arguments_in (Operand k name ∷ ts) = arguments.Cord name ∷ arguments_in ts
arguments_in (Value number ∷ ts) = arguments.Number number ∷ arguments_in ts
arguments_in (_ ∷ ts) = arguments_in ts

arguments_back : (args : List Argument) → arguments_in (map argument_term args) ≡ args
arguments_back [] = refl
arguments_back (arguments.Number n ∷ more) = ap (λ k. arguments.Number n ∷ k) (arguments_back more)
arguments_back (arguments.Cord name ∷ more) = ap (λ k. arguments.Cord name ∷ k) (arguments_back more)

abbrev made_catn : ℕ → List Term → Option Statement
made_catn n (Target k target ∷ ts) = Some (Catn n target (names_in ts))
made_catn n _ = None

abbrev made_sprintf : ℕ → List Piece → List Term → Option Statement
made_sprintf n pieces (Target k target ∷ Formats text ∷ ts) = Some (Sprintf n target text pieces (arguments_in ts))
made_sprintf n pieces _ = None

unfoldable made : List ℕ → ℕ → List Piece → List Term → Option Statement
made w n pieces ts =
    if bytes_eq w (codes "catn") then made_catn n ts
    else if bytes_eq w (codes "sprintf") then made_sprintf n pieces ts
    else fixed_made w n ts

made_is : (s : Statement) → made (word_of s) (line_of s) (pieces_of s) (terms_of s) ≡ Some s
unfolding made
made_is (Catn n target parts) = ap (λ k. Some (Catn n target k)) (names_back parts)
made_is (Sprintf n target text format arguments) = ap (λ k. Some (Sprintf n target text format k)) (arguments_back arguments)
made_is _ = refl

-- words say one statement
pub one_statement : OneFormat → BadIsNoFormat → (g : Grammar) (n : ℕ) (scope : Scope) (words : List Word) (s s' : Statement) →
    Says g n scope words s → Says g n scope words s' → s ≡ s'
one_statement one bad g n scope words s s' says says' =
    let whole : Plain (word_of s) ∷ says.others ≡ Plain (word_of s') ∷ says'.others = sym says.word ∙ says'.word in
    let word : word_of s ≡ word_of s' = cc in
    let others : says.others ≡ says'.others = cc in
    let r = right_form says.others s says.terms says.suits in
    let r' = right_form says'.others s' says'.terms says'.suits in
    let forms : Some r.form ≡ Some r'.form = sym r.is ∙ ap form_of word ∙ r'.is in
    let form : r.form ≡ r'.form = cc in
    let has' = subst (λ k. HasFormat k.shape says'.others r'.formats) (sym form) r'.has in
    let formats =
    one_format one bad r.form.shape says.others r.formats r'.formats r.has
    (subst (λ k. HasFormat r.form.shape k r'.formats) (sym others) has') in
    let wants : map want_of (terms_of s) ≡ map want_of (terms_of s') =
    sym r.wants ∙ ap (λ k. wants_of k.shape r.formats says.others) form ∙ ap (λ k. wants_of r'.form.shape k says.others) formats
    ∙ ap (λ k. wants_of r'.form.shape r'.formats k) others ∙ r'.wants in
    let terms = one_list says.others (terms_of s) (terms_of s') says.terms
    (subst (λ k. AreTerms k (terms_of s')) (sym others) says'.terms) wants in
    let pieces = one_printed one (terms_of s) (pieces_of s) (pieces_of s') (printed s says.suits)
    (subst (λ k. IsPrinted k (pieces_of s')) (sym terms) (printed s' says'.suits)) in
    let line : line_of s ≡ line_of s' = says.line ∙ sym says'.line in
    let same : Some s ≡ Some s' =
    sym (made_is s) ∙ ap (λ k. made k (line_of s) (pieces_of s) (terms_of s)) word
    ∙ ap (λ k. made (word_of s') k (pieces_of s) (terms_of s)) line ∙ ap (λ k. made (word_of s') (line_of s') k (terms_of s)) pieces
    ∙ ap (λ k. made (word_of s') (line_of s') (pieces_of s') k) terms ∙ made_is s' in
    cc
