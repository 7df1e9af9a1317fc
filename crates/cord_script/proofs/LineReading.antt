-- What the words of a line give.
use Rattle.std.specs.Prelude.{◌≡◌, ◌∷◌, ◌++◌}
use Rattle.cord_script.proofs.Common.{◌∙◌, ℕ, List, [], refl, sym, ap, subst, map, map-append, Known, FixedVerb, Word, StartsWith, Term}
use Rattle.cord_script.proofs.Common.{Target, FilePath, Literal, Applies, Compares, Function, Relation, function_word, relation_word, Plain}
use Rattle.cord_script.proofs.Common.{Quoted, IsTerm, AreTerms, IsAllowed, AreAllowed, names_after, paths_after, LineView, PassesWord}
use Rattle.cord_script.proofs.Common.{GivesTerm, names_with, paths_with, verb_word}
use Rattle.cord_script.specs.declared.verbs.Verb.TheVariants as verbs
use Rattle.cord_script.specs.inner.LineReading.{GivesAll}

pub no_field : (a : LineView) → GivesAll a [] a
unfolding GivesAll
no_field a = refl

-- one more field, in front of others
pub first_field : {a b : LineView} {t : Term} (c : LineView) (ts : List Term) → GivesTerm a t b → GivesAll b ts c → GivesAll a (t ∷ ts) c
unfolding GivesAll
first_field {b = b} c ts h more = (b, h, more)

pub one_field : {a b : LineView} {t : Term} → GivesTerm a t b → GivesAll a (t ∷ []) b
one_field {b = b} h = first_field b [] h (no_field b)

-- fields, and then others
pub all_given : (ts us : List Term) (a b c : LineView) → GivesAll a ts b → GivesAll b us c → GivesAll a (ts ++ us) c
unfolding GivesAll
all_given [] us a b c h k = subst (λ s. GivesAll s us c) (sym h) k
all_given (t ∷ ts) us a b c h k = (h.0, h.1, all_given ts us h.0 b c h.2 k)

-- one more field of a list
pub field_pushed : {X : Type 0} (f : X → Term) (xs grown : List X) (x : X) (a b c : LineView) → grown ≡ xs ++ x ∷ [] →
    GivesAll a (map f xs) b → GivesTerm b (f x) c → GivesAll a (map f grown) c
field_pushed f xs grown x a b c e h k =
    subst (λ ts. GivesAll a ts c) (sym (ap (map f) e ∙ map-append f xs (x ∷ []))) (all_given (map f xs) (f x ∷ []) a b c h (one_field k))

-- the word of a verb that is reported
pub spelled : {V : Type 0} (of : V → FixedVerb) {a b : V} → a ≡ b → verb_word (verbs.Fixed (of b)) ≡ verb_word (verbs.Fixed (of a))
spelled of e = ap (λ v. verb_word (verbs.Fixed (of v))) (sym e)

-- a term that adds nothing
pub word_given : (word : Word) (t : Term) (old mid : LineView) → PassesWord old word mid → IsTerm word t → IsAllowed old.scope t →
    ((names : List Known) → names_after (t ∷ []) names ≡ names) → ((paths : List (List ℕ)) → paths_after (t ∷ []) paths ≡ paths) →
    GivesTerm old t mid
word_given word t old mid p says allowed names paths = record {
  word = word;
  has = p.has;
  says = says;
  allowed = allowed;
  scope = p.scope;
  names = ap (names_with old.scope.names) p.name ∙ sym (names (names_with old.scope.names old.name));
  paths = ap (paths_with old.scope.paths) p.path ∙ sym (paths (paths_with old.scope.paths old.path));
}

-- a text, a function and a relation as fields
pub literal_given : {a b : LineView} (text : List ℕ) → PassesWord a (Quoted text) b → GivesAll a (Literal text ∷ []) b
literal_given text h = one_field (word_given (Quoted text) (Literal text) _ _ h refl tt (λ names. refl) (λ paths. refl))

pub applied_given : {a b : LineView} (p : List ℕ) (f : Function) → PassesWord a (Plain p) b → p ≡ function_word f → GivesAll a (Applies f ∷ []) b
applied_given p f h e = one_field (word_given (Plain p) (Applies f) _ _ h (ap Plain e) tt (λ names. refl) (λ paths. refl))

pub compared_given : {a b : LineView} (p : List ℕ) (r : Relation) → PassesWord a (Plain p) b → p ≡ relation_word r → GivesAll a (Compares r ∷ []) b
compared_given p r h e = one_field (word_given (Plain p) (Compares r) _ _ h (ap Plain e) tt (λ names. refl) (λ paths. refl))

-- the names after a term and others
names_split : (t : Term) (ts : List Term) (names : List Known) → names_after (t ∷ ts) names ≡ names_after ts (names_after (t ∷ []) names)
names_split (Target kind name) ts names = refl
names_split _ ts names = refl

paths_split : (t : Term) (ts : List Term) (paths : List (List ℕ)) → paths_after (t ∷ ts) paths ≡ paths_after ts (paths_after (t ∷ []) paths)
paths_split (FilePath path) ts paths = refl
paths_split _ ts paths = refl

-- the words that say the terms that were given
pub record HasGiven (old : LineView) (ts : List Term) (new : LineView) : Type 0 where
  pub words : List Word
  pub starts : StartsWith old.rest words new.rest
  pub says : AreTerms words ts
  pub allowed : AreAllowed old.scope ts
  pub names : names_with old.scope.names new.name ≡ names_after ts (names_with old.scope.names old.name)
  pub paths : paths_with old.scope.paths new.path ≡ paths_after ts (paths_with old.scope.paths old.path)

pub words_given : (old new : LineView) (ts : List Term) → GivesAll old ts new → HasGiven old ts new
unfolding GivesAll
words_given old new [] h = record {
  words = [];
  starts = ap (λ (v : LineView). v.rest) h;
  says = tt;
  allowed = tt;
  names = ap (λ (v : LineView). names_with old.scope.names v.name) (sym h);
  paths = ap (λ (v : LineView). paths_with old.scope.paths v.path) (sym h);
}
words_given old new (t ∷ ts) h =
    let g = h.1 in
    let more = words_given h.0 new ts h.2 in
    record {
      words = g.word ∷ more.words;
      starts = (h.0.rest, g.has, more.starts);
      says = (g.says, more.says);
      allowed = (g.allowed, subst (λ s. AreAllowed s ts) g.scope more.allowed);
      names = ap (λ s. names_with s.names new.name) (sym g.scope) ∙ more.names
          ∙ ap (λ s. names_after ts (names_with s.names h.0.name)) g.scope ∙ ap (names_after ts) g.names
          ∙ sym (names_split t ts (names_with old.scope.names old.name));
      paths = ap (λ s. paths_with s.paths new.path) (sym g.scope) ∙ more.paths
          ∙ ap (λ s. paths_after ts (paths_with s.paths h.0.path)) g.scope ∙ ap (paths_after ts) g.paths
          ∙ sym (paths_split t ts (paths_with old.scope.paths old.path));
    }
