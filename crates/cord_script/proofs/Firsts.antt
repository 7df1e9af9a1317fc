-- Tables whose entries are each the first with their name.
use Rattle.std.specs.Prelude.{◌≡◌, ◌⊎◌, ◌<◌, ◌∷◌, ◌++◌, if◌then◌else◌}
use Rattle.cord_script.proofs.Common.{ℕ, zero, suc, List, [], Bool, true, false, Some, None, drop, length, get_or, inl, inr, refl, sym}
use Rattle.cord_script.proofs.Common.{subst, ap, ◌∙◌, Option, slice_get, IfSome, MatchOption, bytes_eq, Kind, Known, kind_of, AreFirst}
use Rattle.cord_script.proofs.Common.{AreNames, is_name}
use Rattle.std.specs.Option.{option_or}
use Rattle.std.proofs.Math.Seq.{drop-cons}
use Rattle.std.proofs.lemmas.Slice.Eq.{bytes_eq-Decides}

pub same_bytes : (x y : List ℕ) → bytes_eq x y ≡ true → x ≡ y
same_bytes x y e = (bytes_eq-Decides x y).0 e

own_bytes : (x : List ℕ) → bytes_eq x x ≡ true
own_bytes x = (bytes_eq-Decides x x).1 refl

-- the kind of a name that is found at a place of the search
pub found_here : (names : List Known) (i : ℕ) (entry : Known) (name : List ℕ) → i < length names → entry ≡ get_or names i entry →
    bytes_eq entry.name name ≡ true → kind_of names name ≡ kind_of (drop i names) name → kind_of names name ≡ Some entry.kind
found_here names i entry name lt is same on =
    let here : kind_of (drop i names) name ≡ Some entry.kind = rw (drop-cons names i entry, ← is, same) refl in
    on ∙ here

-- the kind of an entry's name
pub kind_at : (names : List Known) (i : ℕ) (entry : Known) (name : List ℕ) → AreFirst names → slice_get names i ≡ Some entry →
    entry.name ≡ name → kind_of names name ≡ Some entry.kind
kind_at names i entry name first at same = ap (kind_of names) (sym same) ∙ first i entry at

-- the kind of a name among names and more: the first that is one
kind_among : (names more : List Known) (name : List ℕ) → kind_of (names ++ more) name ≡ option_or (kind_of names name) (kind_of more name)
kind_among [] more name = refl
kind_among (k ∷ ks) more name = by_name (bytes_eq k.name name) (kind_among ks more name)
  where
    by_name : (b : Bool) → kind_of (ks ++ more) name ≡ option_or (kind_of ks name) (kind_of more name) →
        (if b then Some k.kind else kind_of (ks ++ more) name) ≡ option_or (if b then Some k.kind else kind_of ks name) (kind_of more name)
    by_name true h = refl
    by_name false h = h

-- an entry stands among the others, or is the last
at_push : (names : List Known) (last : Known) (i : ℕ) (entry : Known) → slice_get (names ++ last ∷ []) i ≡ Some entry →
    (slice_get names i ≡ Some entry) ⊎ (last ≡ entry)
at_push [] last zero entry e = inr cc
at_push [] last (suc i) entry e = let bad : ⊥ = cc in absurd bad
at_push (k ∷ ks) last zero entry e = inl e
at_push (k ∷ ks) last (suc i) entry e = at_push ks last i entry e

-- a name that is new may be added
pub first_push : (names : List Known) (last : Known) → AreFirst names → kind_of names last.name ≡ None → AreFirst (names ++ last ∷ [])
first_push names last first new i entry e = by_place (at_push names last i entry e)
  where
    own : kind_of (last ∷ []) last.name ≡ Some last.kind
    own = rw (own_bytes last.name) refl

    by_place : (slice_get names i ≡ Some entry) ⊎ (last ≡ entry) → kind_of (names ++ last ∷ []) entry.name ≡ Some entry.kind
    by_place (inl at) =
        kind_among names (last ∷ []) entry.name ∙ ap (λ o. option_or o (kind_of (last ∷ []) entry.name)) (first i entry at)
    by_place (inr is) = rw (← is) (kind_among names (last ∷ []) last.name ∙ ap (λ o. option_or o (kind_of (last ∷ []) last.name)) new ∙ own)

-- a name that is known is a name
pub known_name : (names : List Known) (name : List ℕ) (kind : Kind) → AreNames names → kind_of names name ≡ Some kind →
    is_name name ≡ true
known_name [] name kind h e = let bad : ⊥ = cc in absurd bad
known_name (k ∷ ks) name kind h e = by_name (bytes_eq k.name name) refl e (λ d. known_name ks name kind h.1 d)
  where
    by_name : (b : Bool) → bytes_eq k.name name ≡ b → (if b then Some k.kind else kind_of ks name) ≡ Some kind →
        (kind_of ks name ≡ Some kind → is_name name ≡ true) → is_name name ≡ true
    by_name true same e ih = subst (λ n. is_name n ≡ true) (same_bytes k.name name same) h.0
    by_name false same e ih = ih e

-- what follows where something is found
pub some_by : {X : Type 0} (o : Option X) (A P : Type 0) (B : X → Type 0) → ((x : X) → B x → P) → MatchOption o A B → IfSome o (λ _. P)
some_by None A P B f h = tt
some_by (Some x) A P B f h = f x h

-- one more name
pub names_push : (names : List Known) (last : Known) → AreNames names → is_name last.name ≡ true → AreNames (names ++ last ∷ [])
names_push [] last h e = (e, tt)
names_push (k ∷ ks) last h e = (h.0, names_push ks last h.1 e)
