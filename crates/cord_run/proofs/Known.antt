-- Lengths that are known without being computed.
use Rattle.cord_run.proofs.Common.{Bool, ByLength, Entry, Expr, Exprs, FaultKind, HasContent, IsExtent, IsKnownAt, IsKnownOf, Joined, List}
use Rattle.cord_run.proofs.Common.{Long, MAX_LEN, Made, Measure, Named, Number, Numeral, Ok, Operation, Reading, Result, Shared, Some}
use Rattle.cord_run.proofs.Common.{StaysKnown, [], and_then, ap, append, arith, as_length, bytes_eq, bytes_eq-Decides, cat, content_in}
use Rattle.cord_run.proofs.Common.{content_length, extent_in, false, file_made, lacks, length, length_in, map, measured_copies}
use Rattle.cord_run.proofs.Common.{measured_part, member, members_extent, members_of, min, name, names, names_of, not, nothing}
use Rattle.cord_run.proofs.Common.{number_names, operand_in, passes, refl, run, shared_view, slice_get, sub, subst, suc, sym, true, ℕ, ◌∙◌}
use Rattle.cord_run.proofs.Common.{◌≡◌, ◌+◌, ◌-◌, ◌^◌, ◌&&◌, ◌∷◌, ◌++◌, if◌then◌else◌}
use Rattle.cord_run.specs.declared.targets.files.Reading.TheVariants.{Eager, Lazy}
use Rattle.cord_plan.specs.Extending.{Extends, IsLonger, joined_at, joined_by}
use Rattle.cord_run.proofs.MemberRanges.{added, extent_both}
use Rattle.cord_run.proofs.Lengths.{Both, both, length_passed}
use Rattle.cord_run.proofs.ShortTexts.{counted_length}

-- ---- what is made of a file
module _ (entries : List Entry) (made : Made) (len : ℕ) where
  pub file_extent : (reading : Reading) (path : List ℕ) → file_made reading path ≡ made → IsExtent entries made len
  file_extent ByLength path is = subst (λ (m : Made). IsExtent entries m len) is tt
  file_extent Eager path is = subst (λ (m : Made). IsExtent entries m len) is tt
  file_extent Lazy path is = subst (λ (m : Made). IsExtent entries m len) is tt

-- ---- a name that others get along without
not_true : (b : Bool) → not b ≡ true → b ≡ false
not_true false e = refl
not_true true e = let bad : ⊥ = cc in absurd bad

lacks_split : (xs ys : List (List ℕ)) (x : List ℕ) → lacks (xs ++ ys) x ≡ true → Both (lacks xs x) (lacks ys x)
lacks_split [] ys x e = record { first = refl; second = e }
lacks_split (y ∷ xs) ys x e =
    let here = both (not (bytes_eq y x)) (lacks (xs ++ ys) x) e in
    let rest = lacks_split xs ys x here.second in
    record { first = ap (λ (v : Bool). v && lacks xs x) here.first ∙ rest.first; second = rest.second }

module _ (old new : List Entry) (x : List ℕ) (others : (y : List ℕ) → bytes_eq y x ≡ false → length_in new y ≡ length_in old y)
    (numbers : (n : Number) → operand_in new n ≡ operand_in old n) where
  -- where nothing else has changed, lengths of what doesn't name it stay
  mutual
    extent_stays : (e : Expr) → lacks (names e) x ≡ true → extent_in new e ≡ extent_in old e
    extent_stays (name y) free = ap (λ (n : ℕ). Ok n) (others y (not_true (bytes_eq y x) (both (not (bytes_eq y x)) true free).first))
    extent_stays (run c n) free = λ i. measured_copies MAX_LEN (numbers c i) (numbers n i)
    extent_stays (cat es) free = ap (λ (r : Result ℕ FaultKind). and_then r (λ len. as_length MAX_LEN len)) (members_stay es free)
    extent_stays (sub e j n) free =
        let inside = lacks_split (names e) (number_names j ++ number_names n) x free in
        λ i. and_then (extent_stays e inside.first i) (λ len. measured_part MAX_LEN len (numbers j i) (numbers n i))

    members_stay : (es : Exprs) → lacks (names_of es) x ≡ true → members_extent new es ≡ members_extent old es
    members_stay nothing free = refl
    members_stay (member e es) free =
        let each = lacks_split (names e) (names_of es) x free in
        λ i. and_then (extent_stays e each.first i) (λ len. and_then (members_stay es each.second i) (λ more. Ok (len + more)))

-- ---- a name that got a length
module _ (old new : List Entry) (x : List ℕ) (len : ℕ) (has : HasContent x (Long len) old new) where
  other_length : (y : List ℕ) → bytes_eq y x ≡ false → length_in new y ≡ length_in old y
  other_length y differs = ap content_length
      (has.contents y ∙ ap (λ (b : Bool). if b then Long len else content_in old y) differs)

  own_length : length_in new x ≡ len
  own_length = ap content_length
      (has.contents x ∙ ap (λ (b : Bool). if b then Long len else content_in old x) ((bytes_eq-Decides x x).1 refl))

  same_operand : (n : Number) → operand_in new n ≡ operand_in old n
  same_operand (Numeral z) = refl
  same_operand (Named y) = has.numbers y

  -- what had its length computed for it stays so long
  pub measured_stays : (line : ℕ) (made : Made) → IsExtent old made len → StaysKnown new (Measure line x made)
  measured_stays line (Joined (cat es)) is = λ free.
      extent_stays old new x other_length same_operand (cat es) free ∙ is ∙ ap (λ (n : ℕ). Ok n) (sym own_length)
  measured_stays line made is = tt

-- ---- an operation that joins a name more
-- the last member
abbrev last_or : Expr → Exprs → Expr
last_or e nothing = e
last_or e (member f es) = last_or f es

last_is : (d : Expr) (es : Exprs) (e : Expr) → last_or d (append es (member e nothing)) ≡ e
last_is d nothing e = refl
last_is d (member f es) e = last_is f es e

-- members whose length an operation computes together, and members of which the last is this name
abbrev Computes : Exprs → Operation → Type 0
Computes es o = (line : ℕ) × (x : List ℕ) × (o ≡ Measure line x (Joined (cat es)))

abbrev EndsIn : Exprs → List ℕ → Type 0
EndsIn es x = (others : Exprs) × (es ≡ append others (member (name x) nothing))

module _ (entries : List Entry) where
  one_more : (es all : Exprs) (e : Expr) (z : List ℕ) (len : ℕ) → all ≡ append es (member e nothing) → e ≡ name z →
      extent_in entries (cat es) ≡ Ok len → extent_in entries (cat all) ≡ as_length MAX_LEN (min (len + length_in entries z) (2 ^ 64 - 1))
  one_more es all e z len is ends reported =
      let more : ℕ = length_in entries z in
      let whole : members_extent entries all ≡ added (members_extent entries es) (Ok (more + 0)) =
      ap (λ (ms : Exprs). members_extent entries ms) (is ∙ ap (λ (f : Expr). append es (member f nothing)) ends)
      ∙ extent_both entries es (member (name z) nothing) in
      let p = passes (members_extent entries es) (λ n. as_length MAX_LEN n) len reported in
      let passed : p.middle ≡ len = (length_passed p.middle len p.next).0 in
      let sum : members_extent entries all ≡ Ok (p.middle + (more + 0)) =
      whole ∙ ap (λ (r : Result ℕ FaultKind). added r (Ok (more + 0))) p.first in
      let capped : min (len + more) (2 ^ 64 - 1) ≡ min (0 + (p.middle + (more + 0))) (2 ^ 64 - 1) = omega (arith, passed) in
      ap (λ (r : Result ℕ FaultKind). and_then r (λ n. as_length MAX_LEN n)) sum
      ∙ sym (counted_length (min (len + more) (2 ^ 64 - 1)) (Ok (p.middle + (more + 0))) (ap (λ (n : ℕ). Ok n) capped))

  longer_known : (line : ℕ) (x : List ℕ) (made : Made) (next : Operation) (all : Exprs) (z : List ℕ) →
      StaysKnown entries (Measure line x made) → IsLonger (joined_by (Measure line x made)) (joined_by next) →
      Computes all next → EndsIn all z → IsKnownOf entries next (min (length_in entries x + length_in entries z) (2 ^ 64 - 1))
  longer_known line x (Joined (cat es)) next all z stays longer is ends =
      let more : IsLonger (Some (x, es)) (Some (is.1, all)) = subst (λ (o : Operation). IsLonger (Some (x, es)) (joined_by o)) is.2 longer in
      let last : last_or (name z) all ≡ name z =
      ap (λ (ms : Exprs). last_or (name z) ms) ends.1 ∙ last_is (name z) ends.0 (name z) in
      let same : more.1.0 ≡ name z =
      sym (ap (λ (ms : Exprs). last_or (name z) ms) more.1.1 ∙ last_is (name z) es more.1.0) ∙ last in
      subst (λ (o : Operation). IsKnownOf entries o (min (length_in entries x + length_in entries z) (2 ^ 64 - 1))) (sym is.2)
      (one_more es all more.1.0 z (length_in entries x) more.1.1 same (stays more.0))
  longer_known line x made next all z stays longer is ends = absurd longer

  -- after an operation that stays known comes one that joins a name more
  pub next_known : (operations : List Operation) (place next len : ℕ) (last after : Operation) (line : ℕ) (x : List ℕ) (made : Made)
      (all : Exprs) (z : List ℕ) → next ≡ place + 1 → Extends operations next → slice_get operations place ≡ Some last →
      slice_get operations next ≡ Some after → last ≡ Measure line x made → StaysKnown entries last →
      Computes all after → EndsIn all z → len ≡ min (length_in entries x + length_in entries z) (2 ^ 64 - 1) → IsKnownAt entries operations next len
  next_known operations place next len last after line x made all z later extends here there is stays measures ends sum = λ o found.
      let follows : next ≡ suc place = omega (arith, later) in
      let longer : IsLonger (joined_at (slice_get operations place)) (joined_at (slice_get operations (suc place))) =
      subst (λ (p : ℕ). Extends operations p) follows extends in
      let first : joined_at (slice_get operations place) ≡ joined_by (Measure line x made) =
      ap joined_at here ∙ ap joined_by is in
      let second : joined_at (slice_get operations (suc place)) ≡ joined_by after =
      ap joined_at (ap (λ (p : ℕ). slice_get operations p) (sym follows) ∙ there) in
      let same : after ≡ o = cc in
      let known : IsKnownOf entries after (min (length_in entries x + length_in entries z) (2 ^ 64 - 1)) =
      longer_known line x made after all z (subst (λ (k : Operation). StaysKnown entries k) is stays)
      (subst (λ j. IsLonger j (joined_by after)) first (subst (λ j. IsLonger (joined_at (slice_get operations place)) j) second longer))
      measures ends in
      subst (λ (k : Operation). IsKnownOf entries k len) same (subst (λ (n : ℕ). IsKnownOf entries after n) (sym sum) known)

-- ---- the last of some members
append_twice : (a b c : Exprs) → append a (append b c) ≡ append (append a b) c
append_twice nothing b c = refl
append_twice (member e a) b c = ap (λ (es : Exprs). member e es) (append_twice a b c)

ends_in : (rest : List Shared) (m : Shared) → slice_get rest (length rest - 1) ≡ Some m →
    (others : Exprs) × (members_of (map shared_view rest) ≡ append others (member (shared_view m) nothing))
ends_in [] m e = let bad : ⊥ = cc in absurd bad
ends_in (k ∷ []) m e = let same : k ≡ m = cc in (nothing, ap (λ (s : Shared). member (shared_view s) nothing) same)
ends_in (k ∷ l ∷ rest) m e =
    let later : length (k ∷ l ∷ rest) - 1 ≡ suc (length (l ∷ rest) - 1) = omega arith in
    let suffix = ends_in (l ∷ rest) m (subst (λ (i : ℕ). slice_get (k ∷ l ∷ rest) i ≡ Some m) later e) in
    (member (shared_view k) suffix.0, ap (λ (es : Exprs). member (shared_view k) es) suffix.1)

pub last_named : (all prefix : Exprs) (rest : List Shared) (m : Shared) (x : List ℕ) →
    all ≡ append prefix (members_of (map shared_view rest)) → slice_get rest (length rest - 1) ≡ Some m → shared_view m ≡ name x →
    EndsIn all x
last_named all prefix rest m x halves last named =
    let suffix = ends_in rest m last in (
      append prefix suffix.0,
      halves ∙ ap (λ (es : Exprs). append prefix es) suffix.1 ∙ append_twice prefix suffix.0 (member (shared_view m) nothing)
          ∙ ap (λ (e : Expr). append (append prefix suffix.0) (member e nothing)) named,
    )
