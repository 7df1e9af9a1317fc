-- The statements' words, and what statements do to the open blocks, as the code has them.
use Rattle.std.specs.Prelude.{◌≡◌, ◌+◌, ◌∷◌, MatchOption, get_or, if◌then◌else◌}
use Rattle.cord_script.specs.inner.Common.{ℕ, List, [], length, filter, Bool, Option, Some, None, codes, Verb, Effect}
use Rattle.std.specs.Str.{bytes_eq}
use Rattle.cord_script.specs.declared.verbs.Verb.TheVariants.{Fixed, Catn, Sprintf}
use Rattle.cord_script.specs.declared.verbs.FixedVerb.TheVariants.{Origin, Composition, Put, Computation, Look, Growth, Control}
use Rattle.cord_script.specs.declared.verbs.Origin.TheVariants.{Let, File, Eager, Lazy, FromFn}
use Rattle.cord_script.specs.declared.verbs.Composition.TheVariants.{Chars, Nul, Cat, Catc, Substr, Balance, EcToCord}
use Rattle.cord_script.specs.declared.verbs.Computation.TheVariants.{Len, Assign, Add, Sub}
use Rattle.cord_script.specs.declared.verbs.Look.TheVariants.{Fetch, Cmp, Ncmp, Str, Chr, Rchr}
use Rattle.cord_script.specs.declared.verbs.Growth.TheVariants.{EcInit, EcPut, EcCat, EcStr}
use Rattle.cord_script.specs.declared.verbs.Control.TheVariants.{Repeat, If, Else, End}
use Rattle.cord_script.specs.Forms.Effect.{Stays, OpensRepeat, OpensIf, Turns, Closes}

-- the word of a verb
abbrev pub verb_word : Verb → List ℕ
verb_word (Fixed (Origin Let)) = codes "let"
verb_word (Fixed Put) = codes "put"
verb_word (Fixed (Origin File)) = codes "file"
verb_word (Fixed (Origin Eager)) = codes "eager"
verb_word (Fixed (Origin Lazy)) = codes "lazy"
verb_word (Fixed (Composition Chars)) = codes "chars"
verb_word (Fixed (Composition Nul)) = codes "nul"
verb_word (Fixed (Origin FromFn)) = codes "fn"
verb_word (Fixed (Composition Cat)) = codes "cat"
verb_word Catn = codes "catn"
verb_word (Fixed (Composition Catc)) = codes "catc"
verb_word (Fixed (Composition Substr)) = codes "substr"
verb_word (Fixed (Composition Balance)) = codes "balance"
verb_word (Fixed (Composition EcToCord)) = codes "ectocord"
verb_word Sprintf = codes "sprintf"
verb_word (Fixed (Computation Len)) = codes "len"
verb_word (Fixed (Look Fetch)) = codes "fetch"
verb_word (Fixed (Look Cmp)) = codes "cmp"
verb_word (Fixed (Look Ncmp)) = codes "ncmp"
verb_word (Fixed (Look Str)) = codes "str"
verb_word (Fixed (Look Chr)) = codes "chr"
verb_word (Fixed (Look Rchr)) = codes "rchr"
verb_word (Fixed (Computation Assign)) = codes "set"
verb_word (Fixed (Computation Add)) = codes "add"
verb_word (Fixed (Computation Sub)) = codes "sub"
verb_word (Fixed (Growth EcInit)) = codes "ecinit"
verb_word (Fixed (Growth EcPut)) = codes "ecput"
verb_word (Fixed (Growth EcCat)) = codes "eccat"
verb_word (Fixed (Growth EcStr)) = codes "ecstr"
verb_word (Fixed (Control Repeat)) = codes "repeat"
verb_word (Fixed (Control If)) = codes "if"
verb_word (Fixed (Control Else)) = codes "else"
verb_word (Fixed (Control End)) = codes "end"

-- the verbs, in the order of the table of statements
abbrev pub all_verbs : List Verb
all_verbs =
    Fixed (Origin Let) ∷ Fixed Put ∷ Fixed (Origin File) ∷ Fixed (Origin Eager) ∷ Fixed (Origin Lazy)
    ∷ Fixed (Composition Chars) ∷ Fixed (Composition Nul) ∷ Fixed (Origin FromFn) ∷ Fixed (Composition Cat) ∷ Catn
    ∷ Fixed (Composition Catc) ∷ Fixed (Composition Substr) ∷ Fixed (Composition Balance)
    ∷ Fixed (Composition EcToCord) ∷ Sprintf ∷ Fixed (Computation Len) ∷ Fixed (Look Fetch) ∷ Fixed (Look Cmp)
    ∷ Fixed (Look Ncmp) ∷ Fixed (Look Str) ∷ Fixed (Look Chr) ∷ Fixed (Look Rchr) ∷ Fixed (Computation Assign)
    ∷ Fixed (Computation Add) ∷ Fixed (Computation Sub) ∷ Fixed (Growth EcInit) ∷ Fixed (Growth EcPut)
    ∷ Fixed (Growth EcCat) ∷ Fixed (Growth EcStr) ∷ Fixed (Control Repeat) ∷ Fixed (Control If) ∷ Fixed (Control Else)
    ∷ Fixed (Control End) ∷ []

-- the verbs whose words have a length that passes the test
abbrev pub verbs_of : (ℕ → Bool) → List Verb
verbs_of test = filter (λ verb. test (length (verb_word verb))) all_verbs

-- the first of these verbs that has the word
abbrev pub find_verb : List Verb → List ℕ → Option Verb
find_verb [] w = None
find_verb (v ∷ vs) w = if bytes_eq w (verb_word v) then Some v else find_verb vs w

-- these are the bytes from a place on, to the end
abbrev pub Spells : List ℕ → ℕ → List ℕ → Type 0
Spells w i [] = length w ≡ i
Spells w i (c ∷ cs) = (get_or w i 0 ≡ c) × Spells w (i + 1) cs

-- the verb whose word this is, of those whose words have a length that passes the test, if it is one's
abbrev pub FindsVerb : (ℕ → Bool) → List ℕ → Option Verb → Type 0
FindsVerb test w found = MatchOption found (find_verb (verbs_of test) w ≡ None) (λ verb. Spells w 0 (verb_word verb))

-- what a statement of the verb does to the open blocks
abbrev pub verb_effect : Verb → Effect
verb_effect (Fixed (Control Repeat)) = OpensRepeat
verb_effect (Fixed (Control If)) = OpensIf
verb_effect (Fixed (Control Else)) = Turns
verb_effect (Fixed (Control End)) = Closes
verb_effect _ = Stays
