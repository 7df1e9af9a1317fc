-- Terms without an error are allowed.
use Rattle.std.specs.Prelude.{◌≡◌, ◌<◌, ◌∷◌, ◌⊎◌, ◌||◌, if◌then◌else◌}
use Rattle.cord_script.proofs.Common.{inl, inr, Some, None, ℕ, suc, List, [], true, refl, sym, ◌∙◌, ap, length, map, Option, nat_lt, le-leb}
use Rattle.cord_script.proofs.Common.{ltb-true, MAX_NAMES, MAX_PATHS, MAX_BLOCKS, Kind, Want, Numeral, Named, Known, Word, RefusalKind}
use Rattle.cord_script.proofs.Common.{WrongKind, TooMany, TooDeep, is_name, Term, Effect, Stays, OpensRepeat, OpensIf, Turns, Closes}
use Rattle.cord_script.proofs.Common.{Target, Operand, Value, FilePath, Scope, Block, kind_of, is_among, IsTerm, AreTerms, IsAllowed}
use Rattle.cord_script.proofs.Common.{AreAllowed, FitsBlocks, InIf, first_of, unless, first_pair, kind_error, assigned_error, number_error}
use Rattle.cord_script.proofs.Common.{operand_error, word_target_error, word_path_error, names_error, block_error, or_left, or_right}
use Rattle.cord_script.specs.declared.kinds.Kind.TheVariants as kinds
use Rattle.cord_script.specs.declared.kinds.Want.TheVariants as wants
use Rattle.cord_script.proofs.Checked.{neither, holds, kind_right, target_right}
use Rattle.cord_script.proofs.Terms.{want_of, either, name_begins, numeral_known, same_kinds}

path_right : (paths : List (List ℕ)) (path : List ℕ) → unless (is_among paths path || nat_lt (length paths) MAX_PATHS) TooMany ≡ None →
    (is_among paths path ≡ true) ⊎ (length paths < MAX_PATHS)
path_right paths path h =
    elim (either (is_among paths path) (nat_lt (length paths) MAX_PATHS)
    (holds (is_among paths path || nat_lt (length paths) MAX_PATHS) TooMany h)) [
      | inl x ↦ inl x
      | inr x ↦ inr (ltb-true (length paths) MAX_PATHS x)
    ]

-- a number that is a name is wrong as a name is
named_number : (names : List Known) (name : List ℕ) → is_name name ≡ true →
    number_error names name ≡ kind_error (kind_of names name) kinds.Number
named_number names name h = ap (λ b. if b then None else kind_error (kind_of names name) kinds.Number) (name_begins name h)

-- a term is allowed whose word isn't wrong
term_allowed : (scope : Scope) (w : Word) (t : Term) → IsTerm w t → operand_error scope.names (want_of t) w ≡ None →
    word_target_error scope.names (want_of t) w ≡ None → word_path_error scope.paths (want_of t) w ≡ None → IsAllowed scope t
term_allowed scope w (Target kind name) h o t p = target_right (kind_of scope.names name) kind (length scope.names)
    (sym (ap (word_target_error scope.names (wants.Target kind)) h.0) ∙ t)
term_allowed scope w (Operand kind name) h o t p = kind_right (kind_of scope.names name) kind
    (sym (ap (operand_error scope.names (wants.Operand kind)) h.0) ∙ o)
term_allowed scope w (Value (Named name)) h o t p = kind_right (kind_of scope.names name) kinds.Number
    (sym (ap (operand_error scope.names wants.Number) h.0 ∙ named_number scope.names name h.1) ∙ o)
term_allowed scope w (FilePath path) h o t p = path_right scope.paths path (sym (ap (word_path_error scope.paths wants.Path) h.0) ∙ p)
term_allowed scope w _ h o t p = tt

terms_allowed : (scope : Scope) (ws : List Word) (ts : List Term) → AreTerms ws ts →
    first_pair (operand_error scope.names) (map want_of ts) ws ≡ None → first_pair (word_target_error scope.names) (map want_of ts) ws ≡ None →
    first_pair (word_path_error scope.paths) (map want_of ts) ws ≡ None → AreAllowed scope ts
terms_allowed scope ws [] h o t p = tt
terms_allowed scope [] (x ∷ xs) h o t p = absurd h
terms_allowed scope (w ∷ ws) (x ∷ xs) h o t p =
    let a = neither (operand_error scope.names (want_of x) w) (first_pair (operand_error scope.names) (map want_of xs) ws) o in
    let b = neither (word_target_error scope.names (want_of x) w) (first_pair (word_target_error scope.names) (map want_of xs) ws) t in
    let c = neither (word_path_error scope.paths (want_of x) w) (first_pair (word_path_error scope.paths) (map want_of xs) ws) p in
    (term_allowed scope w x h.0 a.0 b.0 c.0, terms_allowed scope ws xs h.1 a.1 b.1 c.1)

-- terms are allowed whose words have no error
pub all_allowed : (scope : Scope) (ws : List Word) (ts : List Term) → AreTerms ws ts → names_error scope (map want_of ts) ws ≡ None →
    AreAllowed scope ts
all_allowed scope ws ts h e =
    let t = first_pair (word_target_error scope.names) (map want_of ts) ws in
    let p = first_pair (word_path_error scope.paths) (map want_of ts) ws in
    let a = neither (first_pair (operand_error scope.names) (map want_of ts) ws) (first_of t p) e in
    let b = neither t p a.1 in
    terms_allowed scope ws ts h a.0 b.0 b.1

-- a name of the kind
right_kind : (has : Option Kind) (kind : Kind) → has ≡ Some kind → kind_error has kind ≡ None
right_kind has kind h = ap (λ k. kind_error k kind) h ∙ ap (λ b. unless b WrongKind) (same_kinds kind)

-- the word of a term that is allowed isn't wrong: as an operand, as the target, as a path
operand_fine : (scope : Scope) (w : Word) (t : Term) → IsTerm w t → IsAllowed scope t → operand_error scope.names (want_of t) w ≡ None
operand_fine scope w (Operand kind name) h a =
    ap (operand_error scope.names (wants.Operand kind)) h.0 ∙ right_kind (kind_of scope.names name) kind a
operand_fine scope w (Value (Numeral v)) h a = ap (operand_error scope.names wants.Number) h.1 ∙ numeral_known scope.names h.0 v h.2
operand_fine scope w (Value (Named name)) h a = ap (operand_error scope.names wants.Number) h.0 ∙ named_number scope.names name h.1
    ∙ right_kind (kind_of scope.names name) kinds.Number a
operand_fine scope w _ h a = refl

target_fine : (scope : Scope) (w : Word) (t : Term) → IsTerm w t → IsAllowed scope t → word_target_error scope.names (want_of t) w ≡ None
target_fine scope w (Target kind name) h (inl a) = ap (word_target_error scope.names (wants.Target kind)) h.0
    ∙ ap (λ k. assigned_error k kind (length scope.names)) a ∙ ap (λ b. unless b WrongKind) (same_kinds kind)
target_fine scope w (Target kind name) h (inr a) = ap (word_target_error scope.names (wants.Target kind)) h.0
    ∙ ap (λ k. assigned_error k kind (length scope.names)) a.0
    ∙ ap (λ b. unless b TooMany) (le-leb (suc (length scope.names)) MAX_NAMES a.1)
target_fine scope w _ h a = refl

path_fine : (scope : Scope) (w : Word) (t : Term) → IsTerm w t → IsAllowed scope t → word_path_error scope.paths (want_of t) w ≡ None
path_fine scope w (FilePath path) h (inl a) = ap (word_path_error scope.paths wants.Path) h.0
    ∙ ap (λ b. unless b TooMany) (or_left (is_among scope.paths path) (nat_lt (length scope.paths) MAX_PATHS) a)
path_fine scope w (FilePath path) h (inr a) = ap (word_path_error scope.paths wants.Path) h.0
    ∙ ap (λ b. unless b TooMany) (or_right (is_among scope.paths path) (nat_lt (length scope.paths) MAX_PATHS)
    (le-leb (suc (length scope.paths)) MAX_PATHS a))
path_fine scope w _ h a = refl

first_fine : (test : Want → Word → Option RefusalKind) (scope : Scope) (ws : List Word) (ts : List Term) →
    ((w : Word) (t : Term) → IsTerm w t → IsAllowed scope t → test (want_of t) w ≡ None) → AreTerms ws ts → AreAllowed scope ts →
    first_pair test (map want_of ts) ws ≡ None
first_fine test scope ws [] f h a = refl
first_fine test scope [] (t ∷ ts) f h a = refl
first_fine test scope (w ∷ ws) (t ∷ ts) f h a =
    ap (λ k. first_of k (first_pair test (map want_of ts) ws)) (f w t h.0 a.0) ∙ first_fine test scope ws ts f h.1 a.1

-- the words of terms that are allowed have no error
pub none_wrong : (scope : Scope) (ws : List Word) (ts : List Term) → AreTerms ws ts → AreAllowed scope ts →
    names_error scope (map want_of ts) ws ≡ None
none_wrong scope ws ts h a =
    let target = first_pair (word_target_error scope.names) (map want_of ts) ws in
    let path = first_pair (word_path_error scope.paths) (map want_of ts) ws in
    ap (λ k. first_of k (first_of target path)) (first_fine (operand_error scope.names) scope ws ts (operand_fine scope) h a)
    ∙ ap (λ k. first_of k path) (first_fine (word_target_error scope.names) scope ws ts (target_fine scope) h a)
    ∙ first_fine (word_path_error scope.paths) scope ws ts (path_fine scope) h a

-- a statement without an error fits the open blocks
pub block_right : (effect : Effect) (blocks : List Block) → block_error effect blocks ≡ None → FitsBlocks effect blocks
block_right Stays blocks h = tt
block_right OpensRepeat blocks h = ltb-true (length blocks) MAX_BLOCKS (holds (nat_lt (length blocks) MAX_BLOCKS) TooDeep h)
block_right OpensIf blocks h = ltb-true (length blocks) MAX_BLOCKS (holds (nat_lt (length blocks) MAX_BLOCKS) TooDeep h)
block_right Turns (InIf line ∷ blocks) h = (line, blocks, refl)
block_right Closes (block ∷ blocks) h = λ e. cc
block_right _ _ h = cc
