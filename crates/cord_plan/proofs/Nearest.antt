-- The nearest line that assigns an operand, and what stands for the operand then.
use Rattle.std.specs.Prelude.{◌≡◌, ◌+◌, ◌-◌, ◌<◌, ◌&&◌, ◌||◌, ◌==◌, ◌∷◌, ◌++◌, if◌then◌else◌}
use Rattle.cord_plan.proofs.Common.{ℕ, zero, suc, Bool, true, false, List, drop, length, get_or, map, Option, Some, None, refl, sym, ap}
use Rattle.cord_plan.proofs.Common.{◌∙◌, arith, slice_get, not, option_map, and-false, and-true, slice_get-map, at_drop_more, bytes_eq, Statement}
use Rattle.cord_plan.proofs.Common.{Expr, name, names, assigns, assigns_at, count, reads_at, read_by, Choice, named, replaced, ChoiceTable}
use Rattle.cord_plan.proofs.Common.{first_of, is_block_at, preserves, each_from, setter, is_small, expr_of, expr_with, chosen_from}
use Rattle.cord_plan.proofs.Common.{chosen_of, nearest, is_spare, expression_of, expression_in, simple_operands, Has, IsChoice}
use Rattle.cord_plan.specs.inner.Choices.{stands}
use Rattle.cord_plan.proofs.Choices.{simple_reads}
use Rattle.cord_plan.proofs.Chosen.{setter_is}

-- one place more at the end
pub each_more : (holds : ℕ → Bool) (n a : ℕ) → each_from holds (suc n) a ≡ each_from holds n a && holds (a + n)
each_more holds zero a = and-true (holds a) ∙ ap holds (let same : a ≡ a + 0 = omega arith in same)
each_more holds (suc n) a = first (holds a) (each_more holds n (a + 1))
  where
    there : holds (a + 1 + n) ≡ holds (a + suc n)
    there = ap holds (let same : a + 1 + n ≡ a + suc n = omega arith in same)

    first : (v : Bool) → each_from holds (suc n) (a + 1) ≡ (each_from holds n (a + 1) && holds (a + 1 + n)) →
        (v && each_from holds (suc n) (a + 1)) ≡ ((v && each_from holds n (a + 1)) && holds (a + suc n))
    first true more = more ∙ ap (λ (w : Bool). each_from holds n (a + 1) && w) there
    first false more = refl

module _ (s : List Statement) (x : List ℕ) where
  -- the line at a place is no block's and doesn't read x
  abbrev pub clear : ℕ → Bool
  clear m = not (is_block_at (slice_get s m)) && not (reads_at (slice_get s m) x)

  abbrev stopped : ℕ → Bool
  stopped m = is_block_at (slice_get s m) || reads_at (slice_get s m) x

  clear_or_stopped : (m : ℕ) → clear m ≡ not (stopped m)
  clear_or_stopped m = pick (is_block_at (slice_get s m)) (reads_at (slice_get s m) x)
    where
      pick : (v w : Bool) → (not v && not w) ≡ not (v || w)
      pick true w = refl
      pick false w = refl

  -- what the nearest line tells of the last one that assigns x
  abbrev pub Reported : ℕ → Option ℕ → Type 0
  Reported p None = (a : ℕ) → setter s x p ≡ Some a → each_from clear (p - (a + 1)) (a + 1) ≡ false
  Reported p (Some a) = (setter s x p ≡ Some a) × (each_from clear (p - (a + 1)) (a + 1) ≡ true)

  -- the lines between, with one more
  step : (p a : ℕ) → a < p → each_from clear (suc p - (a + 1)) (a + 1) ≡ each_from clear (p - (a + 1)) (a + 1) && clear p
  step p a lt =
      let more : suc p - (a + 1) ≡ suc (p - (a + 1)) = omega arith in
      let last : a + 1 + (p - (a + 1)) ≡ p = omega arith in
      ap (λ (n : ℕ). each_from clear n (a + 1)) more
      ∙ (each_more clear (p - (a + 1)) (a + 1)
      ∙ ap (λ (m : ℕ). each_from clear (p - (a + 1)) (a + 1) && clear m) last)

  pub nearest_reported : (p : ℕ) → Reported p (nearest s x p)
  nearest_reported zero = λ a e. (let bad : ⊥ = cc in absurd bad)
  nearest_reported (suc p) = pick (assigns_at (slice_get s p) x) refl (nearest_reported p)
    where
      on : assigns_at (slice_get s p) x ≡ false → setter s x (suc p) ≡ setter s x p
      on f = ap (λ (v : Bool). if v then Some p else setter s x p) f

      over : (o : Option ℕ) → assigns_at (slice_get s p) x ≡ false → clear p ≡ true → Reported p o → Reported (suc p) o
      over None f free reported = λ a set.
          (let before : setter s x p ≡ Some a = sym (on f) ∙ set in
          step p a (setter_is s x p a before).before ∙ ap (λ (v : Bool). v && clear p) (reported a before))
      over (Some a) f free reported =
          (on f ∙ reported.0, step p a (setter_is s x p a reported.0).before ∙ (ap (λ (v : Bool). v && clear p) reported.1 ∙ free))

      here : (v : Bool) → stopped p ≡ v → assigns_at (slice_get s p) x ≡ false → Reported p (nearest s x p) →
          Reported (suc p) (if v then None else nearest s x p)
      here true e f reported = λ a set.
          (let before : setter s x p ≡ Some a = sym (on f) ∙ set in
          let shut : clear p ≡ false = clear_or_stopped p ∙ ap not e in
          step p a (setter_is s x p a before).before ∙ (ap (λ (v : Bool). each_from clear (p - (a + 1)) (a + 1) && v) shut
          ∙ and-false (each_from clear (p - (a + 1)) (a + 1))))
      here false e f reported = over (nearest s x p) f (clear_or_stopped p ∙ ap not e) reported

      pick : (v : Bool) → assigns_at (slice_get s p) x ≡ v → Reported p (nearest s x p) →
          Reported (suc p) (if v then Some p else (if stopped p then None else nearest s x p))
      pick true f reported =
          let none : suc p - (p + 1) ≡ 0 = omega arith in
          (ap (λ (v : Bool). if v then Some p else setter s x p) f, ap (λ (n : ℕ). each_from clear n (p + 1)) none)
      pick false f reported = here (stopped p) refl f reported

module _ (s : List Statement) (later : List ℕ → ℕ → Bool) (t : ChoiceTable) (b : ℕ) (l : Statement) (x : List ℕ) (before after : List Expr) where
  -- where there is no nearest line, the operand stands by its name
  kept_far : nearest s x b ≡ None → named x ≡ chosen_of s later t b l x before after (setter s x b)
  kept_far e = pick (setter s x b) refl
    where
      reported : (a : ℕ) → setter s x b ≡ Some a → each_from (clear s x) (b - (a + 1)) (a + 1) ≡ false
      reported = rw e at (nearest_reported s x b)

      from : (a : ℕ) (o : Option Expr) → setter s x b ≡ Some a → named x ≡ chosen_from s later b l x before after a o
      from a None set = refl
      from a (Some e) set = ap (λ (v : Bool). if (v && stands s later e a b l (read_by l) x) && is_small
          (expr_with l (before ++ e ∷ after)) then replaced a e else named x) (sym (reported a set))

      pick : (o : Option ℕ) → setter s x b ≡ o → named x ≡ chosen_of s later t b l x before after o
      pick None set = refl
      pick (Some a) set = from a (first_of (slice_get t a)) set

  -- where there is one, its expression is looked at
  from_near : (a : ℕ) → nearest s x b ≡ Some a → chosen_of s later t b l x before after (setter s x b)
      ≡ chosen_from s later b l x before after a (first_of (slice_get t a))
  from_near a e = ap (λ (o : Option ℕ). chosen_of s later t b l x before after o) (reported.0)
    where
      reported : (setter s x b ≡ Some a) × (each_from (clear s x) (b - (a + 1)) (a + 1) ≡ true)
      reported = rw e at (nearest_reported s x b)

  kept_bare : (a : ℕ) → nearest s x b ≡ Some a → first_of (slice_get t a) ≡ None →
      named x ≡ chosen_of s later t b l x before after (setter s x b)
  kept_bare a e none = sym (from_near a e ∙ ap (λ (o : Option Expr). chosen_from s later b l x before after a o) none)

  -- and stands for the operand where it may
  by_tests : (xs : List (List ℕ)) → read_by l ≡ xs → (a : ℕ) (r : Expr) → nearest s x b ≡ Some a → first_of (slice_get t a) ≡ Some r →
      (v : Bool) → (stands s later r a b l xs x && is_small (expr_with l (before ++ r ∷ after))) ≡ v →
      (if v then replaced a r else named x) ≡ chosen_of s later t b l x before after (setter s x b)
  by_tests xs reads a r e some v tests = sym (from_near a e ∙ (ap (λ (o : Option Expr). chosen_from s later b l x before after a o) some
      ∙ (ap (λ (w : Bool). if (w && stands s later r a b l (read_by l) x) && is_small (expr_with l (before ++ r ∷ after)) then replaced a r
      else named x) reported.1
      ∙ (ap (λ (ys : List (List ℕ)). if stands s later r a b l ys x && is_small (expr_with l (before ++ r ∷ after)) then replaced a r
      else named x) reads
      ∙ ap (λ (w : Bool). if w then replaced a r else named x) tests))))
    where
      reported : (setter s x b ≡ Some a) × (each_from (clear s x) (b - (a + 1)) (a + 1) ≡ true)
      reported = rw e at (nearest_reported s x b)

-- for a spare operand an expression stands that stays
pub spare_stands : (s : List Statement) (later : List ℕ → ℕ → Bool) (e : Expr) (a b : ℕ) (l : Statement) (xs : List (List ℕ))
    (x : List ℕ) → is_spare s later b l xs x ≡ true → stands s later e a b l xs x ≡ each_from (λ m. preserves (slice_get s m) (names e))
    (b - a) a
spare_stands s later e a b l xs x spare =
    pick (count x xs == 1) (assigns l x || not (later x b)) (each_from (λ m. preserves (slice_get s m) (names e)) (b - a) a) spare
  where
    pick : (c f stay : Bool) → (c && f) ≡ true → (c && (f && stay)) ≡ stay
    pick true true stay h = refl
    pick _ _ stay h = cc

-- for any other operand none stands
pub needed_stands : (s : List Statement) (later : List ℕ → ℕ → Bool) (e : Expr) (a b : ℕ) (l : Statement) (xs : List (List ℕ))
    (x : List ℕ) → is_spare s later b l xs x ≡ false → stands s later e a b l xs x ≡ false
needed_stands s later e a b l xs x needed =
    pick (count x xs == 1) (assigns l x || not (later x b)) (each_from (λ m. preserves (slice_get s m) (names e)) (b - a) a) needed
  where
    pick : (c f stay : Bool) → (c && f) ≡ false → (c && (f && stay)) ≡ false
    pick true f stay h = ap (λ (v : Bool). v && stay) h
    pick false f stay h = refl

-- what each line preserves, by the first
pub keep_here : (s : List Statement) (xs : List (List ℕ)) (p end : ℕ) (l : Statement) → p < end → slice_get s p ≡ Some l →
    each_from (λ m. preserves (slice_get s m) xs) (end - p) p ≡ preserves (Some l) xs && each_from (λ m. preserves (slice_get s m) xs)
    (end - (p + 1))
    (p + 1)
keep_here s xs p end l lt there =
    let more : end - p ≡ suc (end - (p + 1)) = omega arith in
    ap (λ (n : ℕ). each_from (λ m. preserves (slice_get s m) xs) n p) more
    ∙ ap (λ (o : Option Statement). preserves o xs && each_from (λ m. preserves (slice_get s m) xs) (end - (p + 1)) (p + 1)) there

-- how often a name stands in a list, by its first element
pub count_here : (names : List (List ℕ)) (i : ℕ) (y x : List ℕ) → i < length names → y ≡ get_or names i y →
    count x (drop i names) ≡ (if bytes_eq x y then suc (count x (drop (i + 1) names)) else count x (drop (i + 1) names))
count_here names i y x lt is =
    at_drop_more (λ (ys : List (List ℕ)). count x ys) names i y lt
    ∙ ap (λ (z : List ℕ). if bytes_eq x z then suc (count x (drop (i + 1) names)) else count x (drop (i + 1) names)) (sym is)

-- the expression of a line, as a table of the program has it
pub first_in : (table : List (Option Expr)) (t : ChoiceTable) (a : ℕ) → Has table t → expression_in table a ≡ first_of (slice_get t a)
first_in table t a has = ap (λ (xs : List (Option Expr)). expression_in xs a) (sym has)
    ∙ (ap (λ (o : Option (Option Expr)). expression_of o) (slice_get-map (λ (entry : Option Expr × List Choice). entry.0) t a)
    ∙ pick (slice_get t a))
  where
    pick : (o : Option (Option Expr × List Choice)) → expression_of (option_map (λ (entry : Option Expr × List Choice). entry.0) o)
        ≡ first_of o
    pick None = refl
    pick (Some entry) = refl

-- so much for what is chosen for the next operand of a line, over such a table
module _ (s : List Statement) (later : List ℕ → ℕ → Bool) (b : ℕ) (l : Statement) (xs : List (List ℕ)) (x : List ℕ)
    (table : List (Option Expr)) (done : List Choice) where
  pub far_choice : nearest s x b ≡ None → IsChoice s later b l xs x table done (named x)
  far_choice far = λ t has. kept_far s later t b l x _ _ far

  pub bare_choice : (a : ℕ) → nearest s x b ≡ Some a → expression_in table a ≡ None → IsChoice s later b l xs x table done (named x)
  bare_choice a near bare = λ t has. kept_bare s later t b l x _ _ a near (sym (first_in table t a has) ∙ bare)

  pub tested_choice : simple_operands l ≡ Some xs → (a : ℕ) (r : Expr) → nearest s x b ≡ Some a → expression_in table a ≡ Some r → (v : Bool) →
      (stands s later r a b l xs x && is_small (expr_with l (map (λ d. expr_of d) done
      ++ r ∷ map (λ y. name y) (drop (length done + 1) xs)))) ≡ v →
      IsChoice s later b l xs x table done (if v then replaced a r else named x)
  tested_choice simple a r near there v tests = λ t has.
      by_tests s later t b l x _ _ xs (simple_reads l xs simple) a r near (sym (first_in table t a has) ∙ there) v tests
