-- Names and their numbers.
use Rattle.std.specs.Prelude.{◌≡◌, ◌⊎◌, ◌+◌, ◌-◌, ◌<◌, ◌≤◌, ◌||◌, ◌∷◌, ◌++◌, if◌then◌else◌}
use Rattle.cord_plan.proofs.Common.{ℕ, suc, Bool, true, false, List, [], take, drop, length, get_or, Option, Some, None, inl, inr, refl}
use Rattle.cord_plan.proofs.Common.{sym, ap, ◌∙◌, subst, ⊎_elim, arith, append_assoc, append-nil, length-append, slice_get, option_map, All}
use Rattle.cord_plan.proofs.Common.{IfNone, IfSome, bytes_eq, eq-or-lt_of_le, cases_eq, cases_lt, true≢false, drop-append-le, length-drop}
use Rattle.cord_plan.proofs.Common.{length-map, map-append, take-append-le, take_all, get_or_from_slice_get, slice_get-get_or}
use Rattle.cord_plan.proofs.Common.{slice_get-map, slice_get_cases, slice_get_within, Statement, LineNumbers, NumberedLine, Numbering, has}
use Rattle.cord_plan.proofs.Common.{read_by, reads_at, target_of, simple_operands, IsNumbered, IsNumbering, names_of, number_in, number_of}
use Rattle.cord_plan.proofs.Common.{AddsPlaces, AddsLine, IsLineIn, AreNumbers, GainsNames, IsNumberedLine, IsNumber, TakesNumber, place_of}
use Rattle.std.specs.List.{IsDistinct}
use Rattle.std.proofs.lemmas.Cmp.{nat_list_eq_equiv}
use Rattle.std.proofs.Math.Seq.{drop-append_seam}
use Rattle.std.proofs.lemmas.List.Folds.{list_any_none}
use Rattle.std.proofs.lemmas.Map.Keys.{IsDistinct-push, apart_from_distinct}
use Rattle.cord_plan.proofs.Choices.{simple_reads}
use Rattle.cord_plan.proofs.Named.{has_at, same_bytes, own_bytes}
use Rattle.cord_plan.proofs.Pushed.{get_before, get_last}

-- the name at the place that was found
pub place_found : (names : List (List ℕ)) (x : List ℕ) (n : ℕ) → place_of names x ≡ Some n → slice_get names n ≡ Some x
place_found [] x n e = let bad : ⊥ = cc in absurd bad
place_found (y ∷ ys) x n e = by_name (bytes_eq x y) refl (place_of ys x) e (λ m h. place_found ys x m h)
  where
    by_name : (b : Bool) → bytes_eq x y ≡ b → (o : Option ℕ) → (if b then Some 0 else option_map suc o) ≡ Some n →
        ((m : ℕ) → o ≡ Some m → slice_get ys m ≡ Some x) → slice_get (y ∷ ys) n ≡ Some x
    by_name true same o f ih =
        let is : 0 ≡ n = cc in
        rw (← is) (ap Some (sym (same_bytes x y same)))
    by_name false other None f ih = let bad : ⊥ = cc in absurd bad
    by_name false other (Some m) f ih =
        let is : suc m ≡ n = cc in
        rw (← is) (ih m refl)

-- a name that stands in the list has a place
pub place_within : (names : List (List ℕ)) (x : List ℕ) → has names x ≡ true → (n : ℕ) × (place_of names x ≡ Some n)
place_within [] x h = let bad : ⊥ = cc in absurd bad
place_within (y ∷ ys) x h = by_name (bytes_eq x y) h (λ k. place_within ys x k)
  where
    by_name : (b : Bool) → (b || has ys x) ≡ true → (has ys x ≡ true → (n : ℕ) × (place_of ys x ≡ Some n)) → (n : ℕ) ×
        ((if b then Some 0 else option_map suc (place_of ys x)) ≡ Some n)
    by_name true k ih = (0, refl)
    by_name false k ih = let rest : (n : ℕ) × (place_of ys x ≡ Some n) = ih k in (suc rest.0, rw rest.1 refl)

module _ (t : Numbering) (x : List ℕ) where
  -- the name of a number
  pub number_there : (n : ℕ) → number_of t x ≡ Some n → slice_get (names_of t) n ≡ Some x
  number_there n e = place_found (names_of t) x n e

  -- a name with its number
  pub record Numbered : Type 0 where
    pub number : ℕ
    pub is : number_of t x ≡ Some number
    pub within : number < length (names_of t)

  pub numbered : has (names_of t) x ≡ true → Numbered
  numbered known =
      let found = place_within (names_of t) x known in
      record { number = found.0; is = found.1; within = slice_get_within (names_of t) found.0 x (number_there found.0 found.1) }

  pub unnumbered : has (names_of t) x ≡ false → number_of t x ≡ None
  unnumbered unknown = by_number (number_of t x) refl
    where
      by_number : (o : Option ℕ) → number_of t x ≡ o → o ≡ None
      by_number None e = refl
      by_number (Some n) e =
          let known : has (names_of t) x ≡ true = has_at (names_of t) n x (number_there n e) in
          let bad : ⊥ = cc in
          absurd bad

pub none_distinct : IsDistinct bytes_eq []
unfolding IsDistinct
none_distinct = tt

-- a name that no name of the list is equal to
unplaced : (y : List ℕ) (names : List (List ℕ)) → All (λ z. bytes_eq y z ≡ false) names → place_of names y ≡ None
unplaced y [] none = refl
unplaced y (z ∷ names) none =
    let first : bytes_eq y z ≡ false = none 0 z (omega arith) in
    rw (first, unplaced y names (λ k d lt. none (suc k) d (omega (arith, lt)))) refl

module _ (names : List (List ℕ)) (distinct : IsDistinct bytes_eq names) (x : List ℕ) where
  apart : (m n : ℕ) → m < n → slice_get names m ≡ Some x → slice_get names n ≡ Some x → ⊥
  apart m n less first second =
      let within : n < length names = slice_get_within names n x second in
      let one : get_or names m x ≡ x = let read = slice_get-get_or names m x (omega arith) in cc in
      let two : get_or names n x ≡ x = let read = slice_get-get_or names n x within in cc in
      let differ : bytes_eq (get_or names m x) (get_or names n x) ≡ false = apart_from_distinct bytes_eq names m n x distinct less within in
      true≢false (sym (own_bytes x) ∙ rw (one, two) at differ)

  -- names that are distinct have one place each
  pub one_place : (m n : ℕ) → slice_get names m ≡ Some x → slice_get names n ≡ Some x → m ≡ n
  one_place m n first second = ⊎_elim (λ same. same)
      (λ differ. ⊎_elim (λ less. absurd (apart m n less first second)) (λ more. absurd (apart n m (omega arith) second first))
      (cases_lt m n))
      (cases_eq m n)

  pub place_at : (n : ℕ) → slice_get names n ≡ Some x → place_of names x ≡ Some n
  place_at n e =
      let found = place_within names x (has_at names n x e) in
      found.1 ∙ ap Some (one_place found.0 n (place_found names x found.0 found.1) e)

  -- a place that is reported, where there is one, is the first
  pub place_reported : (o : Option ℕ) → IfSome o (λ n. slice_get names n ≡ Some x) → IfNone o (All (λ z. bytes_eq x z ≡ false) names) →
      o ≡ place_of names x
  place_reported None there none = sym (unplaced x names none)
  place_reported (Some n) there none = sym (place_at n there)

-- ---- lists that grow
pub same_names : (names : List (List ℕ)) → GainsNames names names
same_names names = record { remains = λ n x e. e; distinct = λ d. d }

then_grows : (a b c : List (List ℕ)) → GainsNames a b → GainsNames b c → GainsNames a c
then_grows a b c one two = record {
  remains = λ n x e. two.remains n x (one.remains n x e);
  distinct = λ d. two.distinct (one.distinct d);
}

pub name_added : (y : List ℕ) (names : List (List ℕ)) → All (λ z. bytes_eq y z ≡ false) names →
    TakesNumber y (length names) names (names ++ y ∷ [])
name_added y names new = record {
  grows = record {
    remains = λ n x e. get_before names (y ∷ []) n x e;
    distinct = λ d. IsDistinct-push nat_list_eq_equiv names y d (list_any_none (bytes_eq y) names new);
  };
  is = get_last names y;
}

-- ---- the numbers of names stay when other names come
module _ (old new : List (List ℕ)) (grows : GainsNames old new) where
  numbers_stay : (xs : List (List ℕ)) (ns : List ℕ) → AreNumbers old xs ns → AreNumbers new xs ns
  numbers_stay [] [] e = refl
  numbers_stay (x ∷ xs) (n ∷ ns) e =
      let here : slice_get old n ≡ Some x = cc in
      let rest : AreNumbers old xs ns = cc in
      λ i. grows.remains n x here i ∷ numbers_stay xs ns rest i
  numbers_stay _ _ e = let bad : ⊥ = cc in absurd bad

  number_stays : (o : Option (List ℕ)) (n : Option ℕ) → IsNumber old o n → IsNumber new o n
  number_stays None None e = refl
  number_stays (Some x) (Some n) e =
      let there : slice_get old n ≡ Some x = cc in
      ap Some (grows.remains n x there)
  number_stays _ _ e = let bad : ⊥ = cc in absurd bad

  line_stays : (read more : List ℕ) (l : Statement) (line : NumberedLine) → IsNumberedLine old read l line → IsNumberedLine new (read ++ more) l line
  line_stays read more l line is =
      let order : line.start ≤ line.end = is.order in
      let within : line.end ≤ length read = is.within in
      let size : length (drop line.start read) ≡ length read - line.start = length-drop line.start read in
      let same : take (line.end - line.start) (drop line.start (read ++ more)) ≡ take (line.end - line.start) (drop line.start read) =
      ap (take (line.end - line.start)) (drop-append-le line.start read more (omega arith))
      ∙ take-append-le (line.end - line.start) (drop line.start read) more (omega arith) in
      record {
        target = number_stays (target_of l) line.target is.target;
        order = order;
        within = let long : length (read ++ more) ≡ length read + length more = length-append read more in omega arith;
        reads = rw same (numbers_stay (read_by l) (take (line.end - line.start) (drop line.start read)) is.reads);
      }

-- ---- numbers that are noted
pub none_added : (names : List (List ℕ)) (numbers : List ℕ) → AddsPlaces [] names names numbers numbers
none_added names numbers = record { grows = same_names names; numbers = []; noted = sym (append-nil numbers); are = refl }

pub one_added : (x : List ℕ) (n : ℕ) (old new : List (List ℕ)) (before after : List ℕ) → TakesNumber x n old new → after ≡ before ++ n ∷ []
    →
    AddsPlaces (x ∷ []) old new before after
one_added x n old new before after takes noted = record {
  grows = takes.grows;
  numbers = n ∷ [];
  noted = noted;
  are = ap (λ (o : Option (List ℕ)). o ∷ []) takes.is;
}

pub both_added : (xs ys a b c : List (List ℕ)) (p q r : List ℕ) → AddsPlaces xs a b p q → AddsPlaces ys b c q r → AddsPlaces (xs ++ ys) a c p r
both_added xs ys a b c p q r one two = record {
  grows = then_grows a b c one.grows two.grows;
  numbers = one.numbers ++ two.numbers;
  noted = two.noted ∙ (ap (λ (ns : List ℕ). ns ++ two.numbers) one.noted ∙ append_assoc p one.numbers two.numbers);
  are = map-append (λ n. slice_get c n) one.numbers two.numbers
      ∙ (both (numbers_stay b c two.grows xs one.numbers one.are) two.are ∙ sym (map-append Some xs ys));
}
  where
    both : {i j k m : List (Option (List ℕ))} → i ≡ j → k ≡ m → (i ++ k) ≡ (j ++ m)
    both e f = λ i. e i ++ f i

-- what was noted last
last_noted : (p ns q : List ℕ) → q ≡ p ++ ns → take (length q - length p) (drop (length p) q) ≡ ns
last_noted p ns q is =
    let long : length (p ++ ns) ≡ length p + length ns = length-append p ns in
    rw (is, drop-append_seam p ns) (take_all (length (p ++ ns) - length p) ns (omega arith))

-- the numbers of a line that assigns a name, or none
pub line_added : (l : Statement) (a b c : List (List ℕ)) (p q : List ℕ) (line : NumberedLine) → AddsPlaces (read_by l) a b p q → GainsNames b c →
    IsNumber c (target_of l) line.target → line.start ≡ length p → line.end ≡ length q → AddsLine l a c p q line
line_added l a b c p q line adds grows target start end =
    let long : length (p ++ adds.numbers) ≡ length p + length adds.numbers = length-append p adds.numbers in
    let size : length q ≡ length (p ++ adds.numbers) = ap length adds.noted in
    record {
      grows = then_grows a b c adds.grows grows;
      numbers = adds.numbers;
      noted = adds.noted;
      is = record {
        target = target;
        order = omega arith;
        within = omega arith;
        reads = rw (start, end, last_noted p adds.numbers q adds.noted) (numbers_stay b c grows (read_by l) adds.numbers adds.are);
      };
    }

-- the lines before a place have their numbers
abbrev pub LinesTo : List Statement → ℕ → List (List ℕ) → List ℕ → List NumberedLine → Type 0
LinesTo s i names read lines = (p : ℕ) (l : Statement) → p < i → slice_get s p ≡ Some l →
    (line : NumberedLine) × (slice_get lines p ≡ Some line) × IsNumberedLine names read l line

pub lines_more : (s : List Statement) (i : ℕ) (l : Statement) (old new : List (List ℕ)) (before after : List ℕ) (lines : List NumberedLine)
    (line : NumberedLine) → length lines ≡ i → i < length s → l ≡ get_or s i l → AddsLine l old new before after line →
    LinesTo s i old before lines → LinesTo s (i + 1) new after (lines ++ line ∷ [])
lines_more s i l old new before after lines line size lt is adds reported p m within there =
    by_place (eq-or-lt_of_le (let le : p ≤ i = omega arith in le))
  where
    here : slice_get s i ≡ Some l
    here = slice_get-get_or s i l lt ∙ ap Some (sym is)

    by_place : (p ≡ i) ⊎ (p < i) → (found : NumberedLine) × (slice_get (lines ++ line ∷ []) p ≡ Some found) × IsNumberedLine new after m found
    by_place (inl same) =
        let mine : slice_get s i ≡ Some m = ap (λ (n : ℕ). slice_get s n) (sym same) ∙ there in
        let first = here in
        let one : l ≡ m = cc in (
          line,
          ap (λ (n : ℕ). slice_get (lines ++ line ∷ []) n) (same ∙ sym size) ∙ get_last lines line,
          subst (λ (k : Statement). IsNumberedLine new after k line) one adds.is,
        )
    by_place (inr less) =
        let found : (found : NumberedLine) × (slice_get lines p ≡ Some found) × IsNumberedLine old before m found = reported p m less there in (
          found.0,
          get_before lines (line ∷ []) p found.0 found.1,
          rw adds.noted (line_stays old new adds.grows before adds.numbers m found.0 found.2),
        )

-- ---- what numbers tell
-- the numbers of the line at a place are kept
abbrev pub IsLineAt : Numbering → Statement → ℕ → Type 0
IsLineAt t l p = IsLineIn (names_of t) t.read.items t.lines.items l p

-- the names that the lines read have numbers
abbrev pub CoversNames : List Statement → Numbering → Type 0
CoversNames s t = (p : ℕ) → p < length s → (x : List ℕ) → reads_at (slice_get s p) x ≡ true → has (names_of t) x ≡ true

module _ (t : Numbering) where
  -- the number of a name, where there is one
  pub number_reported : (o : Option (List ℕ)) (n : Option ℕ) → IsNumber (names_of t) o n → n ≡ number_in t o
  number_reported None None e = refl
  number_reported (Some x) (Some n) e =
      let there : slice_get (names_of t) n ≡ Some x = cc in
      sym (place_at (names_of t) t.distinct x n there)
  number_reported _ _ e = let bad : ⊥ = cc in absurd bad

  pub unnamed : (o : Option (List ℕ)) → IsNumber (names_of t) o None → o ≡ None
  unnamed None e = refl
  unnamed (Some x) e = let bad : ⊥ = cc in absurd bad

  module _ (xs : List (List ℕ)) (ns : List ℕ) (are : AreNumbers (names_of t) xs ns) where
    pub as_many : length ns ≡ length xs
    as_many = sym (length-map ns (λ n. slice_get (names_of t) n)) ∙ (ap length are ∙ length-map xs Some)

    both_at : (i : ℕ) → option_map (λ n. slice_get (names_of t) n) (slice_get ns i) ≡ option_map Some (slice_get xs i)
    both_at i = sym (slice_get-map (λ n. slice_get (names_of t) n) ns i)
        ∙ (ap (λ (os : List (Option (List ℕ))). slice_get os i) are ∙ slice_get-map Some xs i)

    -- the name of a number
    pub record NamedAt (i n : ℕ) : Type 0 where
      pub name : List ℕ
      pub there : slice_get xs i ≡ Some name
      pub number : number_of t name ≡ Some n
      pub within : i < length xs
      pub is : name ≡ get_or xs i name

    pub name_at : (i n : ℕ) → slice_get ns i ≡ Some n → NamedAt i n
    name_at i n e = by_name (slice_get xs i) refl (ap (λ (o : Option ℕ). option_map (λ m. slice_get (names_of t) m) o) (sym e) ∙ both_at i)
      where
        by_name : (o : Option (List ℕ)) → slice_get xs i ≡ o → Some (slice_get (names_of t) n) ≡ option_map Some o → NamedAt i n
        by_name None f h = let bad : ⊥ = cc in absurd bad
        by_name (Some x) f h =
            let there : slice_get (names_of t) n ≡ Some x = cc in
            record {
              name = x;
              there = f;
              number = place_at (names_of t) t.distinct x n there;
              within = slice_get_within xs i x f;
              is = sym (get_or_from_slice_get xs i x x f);
            }

    -- the number of a name
    pub number_at : (i : ℕ) (x : List ℕ) → slice_get xs i ≡ Some x → slice_get ns i ≡ number_of t x
    number_at i x e = by_number (slice_get ns i) (both_at i ∙ ap (option_map Some) e)
      where
        by_number : (o : Option ℕ) → option_map (λ n. slice_get (names_of t) n) o ≡ Some (Some x) → o ≡ number_of t x
        by_number None h = let bad : ⊥ = cc in absurd bad
        by_number (Some n) h =
            let there : slice_get (names_of t) n ≡ Some x = cc in
            sym (place_at (names_of t) t.distinct x n there)

  -- the names of numbers are known
  pub numbers_known : (xs : List (List ℕ)) (ns : List ℕ) → AreNumbers (names_of t) xs ns → (x : List ℕ) → has xs x ≡ true →
      has (names_of t) x ≡ true
  numbers_known [] ns e x h = let bad : ⊥ = cc in absurd bad
  numbers_known (y ∷ xs) [] e x h = let bad : ⊥ = cc in absurd bad
  numbers_known (y ∷ xs) (n ∷ ns) e x h =
      let rest : AreNumbers (names_of t) xs ns = cc in
      by_name (bytes_eq x y) refl h (λ k. numbers_known xs ns rest x k)
    where
      by_name : (v : Bool) → bytes_eq x y ≡ v → (v || has xs x) ≡ true → (has xs x ≡ true → has (names_of t) x ≡ true) →
          has (names_of t) x ≡ true
      by_name true same k others =
          let here : slice_get (names_of t) n ≡ Some y = let all = e in cc in
          has_at (names_of t) n x (here ∙ ap Some (sym (same_bytes x y same)))
      by_name false other k others = others k

  -- the numbers of a line, as they are kept
  pub line_numbered : (l : Statement) (line : NumberedLine) (numbers : LineNumbers) → IsNumberedLine (names_of t) t.read.items l line →
      numbers.target ≡ line.target → numbers.read.now ≡ take (line.end - line.start) (drop line.start t.read.items) →
      IsNumbered t l numbers
  line_numbered l line numbers is target read = record {
    target = subst (λ (n : Option ℕ). IsNumber (names_of t) (target_of l) n) (sym target) is.target;
    read = rw read is.reads;
  }

  -- each line of a script has its numbers
  module _ (s : List Statement) (numbering : IsNumbering s t) where
    pub covers : CoversNames s t
    covers p lt x r = by_line (slice_get s p) refl r
      where
        by_line : (o : Option Statement) → slice_get s p ≡ o → reads_at o x ≡ true → has (names_of t) x ≡ true
        by_line None e h = let bad : ⊥ = cc in absurd bad
        by_line (Some l) e h =
            let there = numbering p l e in
            numbers_known (read_by l) (take (there.0.end - there.0.start) (drop there.0.start t.read.items)) there.2.reads x h

    pub line_there : (p : ℕ) → p < length s → (l : Statement) × (slice_get s p ≡ Some l) × IsLineAt t l p
    line_there p lt = elim (slice_get_cases s p).1 [
      | inl w ↦ (w.0, w.2, numbering p w.0 w.2)
      | inr w ↦ absurd (omega (arith, lt, w.0))
    ]

  -- the number of an operand of a simple line
  pub operand_number : (l : Statement) (numbers : LineNumbers) (xs : List (List ℕ)) (i : ℕ) (x : List ℕ) → IsNumbered t l numbers →
      simple_operands l ≡ Some xs → slice_get xs i ≡ Some x → slice_get numbers.read.now i ≡ number_of t x
  operand_number l numbers xs i x are simple there = number_at (read_by l) numbers.read.now are.read i x
      (ap (λ (ys : List (List ℕ)). slice_get ys i) (simple_reads l xs simple) ∙ there)
