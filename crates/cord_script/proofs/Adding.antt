-- The statement of a line, and what it leaves.
use Rattle.std.specs.Prelude.{◌≡◌, ◌∷◌, ◌++◌}
use Rattle.cord_script.proofs.Common.{Some, None, ◌∙◌, ℕ, List, [], refl, sym, ap, subst, All, Verb, Plain, Statement, IsBlank, IsIdle}
use Rattle.cord_script.proofs.Common.{HasWord, HasWords, block_error, Form, terms_of, Scope, FitsBlocks, after, LineView, left_after, TakesLine}
use Rattle.cord_script.proofs.Common.{IsStatementBuilt, Says, whole, verb_word, verb_effect}
use Rattle.cord_script.specs.Forms.{form_of}
use Rattle.cord_script.proofs.Allowed.{block_right}
use Rattle.cord_script.proofs.LineReading.{HasGiven, words_given}
use Rattle.cord_script.proofs.Unique.{plain_begins}
use Rattle.cord_script.proofs.Found.{not_idle}
use Rattle.cord_script.proofs.OneStatement.{right_form}

-- no statement's word begins with `#`
comment_form : (cs : List ℕ) → form_of (35 ∷ cs) ≡ None
unfolding form_of
comment_form cs = refl

-- a line that begins with a statement's word says something
word_shows : (w : List ℕ) (form : Form) (line rest : List ℕ) → form_of w ≡ Some form → HasWord line (Plain w) rest → ¬ IsIdle line
word_shows w form line rest is h =
    let b = plain_begins line w rest h in
    not_idle line (b.others ++ rest) b.first b.begins (λ e.
    let none : Some form ≡ None = sym is ∙ ap form_of b.is ∙ ap (λ k. form_of (k ∷ b.others)) e ∙ comment_form b.others in
    cc)

-- the words after a verb, of which none is read
abbrev before : Scope → List ℕ → LineView
before scope rest = record { scope = scope; rest = rest; name = None; path = None }

-- what a statement leaves is what its verb and its words leave
leaves : (v : Verb) (n : ℕ) (scope : Scope) (rest : List ℕ) (new : LineView) (s : Statement) → IsStatementBuilt v n (before scope rest) new s →
    HasGiven (before scope rest) (terms_of s) new → after s scope ≡ left_after (verb_effect v) n new.name new.path scope
leaves v n scope rest new s built said = rw (said.names, said.paths, built.effect, built.numbered) refl

-- a line that begins with the verb's word, before words that say a statement of the verb
pub adds : (v : Verb) (n : ℕ) (line : List ℕ) (scope : Scope) (rest : List ℕ) (new : LineView) (left : Scope) (s : Statement)
    (ss grown : List Statement) → HasWord line (Plain (verb_word v)) rest → block_error (verb_effect v) scope.blocks ≡ None →
    IsStatementBuilt v n (before scope rest) new s → All IsBlank new.rest → left ≡ left_after (verb_effect v) n new.name new.path scope →
    grown ≡ ss ++ s ∷ [] → TakesLine n line scope left ss grown
adds v n line scope rest new left s ss grown first fits built blank is added =
    let said = words_given (before scope rest) new (terms_of s) built.fields in
    let right = right_form said.words s said.says built.suits in
    let says : Says whole n scope (Plain (verb_word v) ∷ said.words) s = record {
      has = refl;
      line = built.numbered;
      others = said.words;
      word = ap (λ k. Plain k ∷ said.words) (sym built.word);
      terms = said.says;
      suits = built.suits;
      allowed = said.allowed;
      blocks = subst (λ e. FitsBlocks e scope.blocks) (sym built.effect) (block_right (verb_effect v) scope.blocks fits);
    } in
    let shows = word_shows (verb_word v) right.form line rest (ap form_of (sym built.word) ∙ right.is) first in
    let words : HasWords line (Plain (verb_word v) ∷ said.words) = (new.rest, (rest, first, said.starts), blank) in
    (Some s, (shows, Plain (verb_word v) ∷ said.words, words, says, leaves v n scope rest new s built said ∙ sym is), added)
