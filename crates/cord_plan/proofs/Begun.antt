-- The operations of a script's lines, made line by line, and the lines whose expressions they take.
use Rattle.std.specs.Prelude.{◌≡◌, ◌+◌, ◌<◌, ◌≤◌, ◌||◌, ◌∷◌, ◌++◌}
use Rattle.cord_plan.proofs.Common.{ℕ, Bool, true, false, List, [], map, drop, take, length, get_or, Option, Some, None, inl, inr}
use Rattle.cord_plan.proofs.Common.{option_map, refl, sym, ap, ◌∙◌, subst, arith, length-append, replicate, slice_get, or_assoc, or-false}
use Rattle.cord_plan.proofs.Common.{slice_get_read, at_drop_more, at_drop_all, get_or-replicate, length-replicate, map-append, take_more}
use Rattle.cord_plan.proofs.Common.{Statement, Expr, target_of, ChoiceTable, Choice, defining, expr_of, expr_with, operands_chosen, grown}
use Rattle.cord_plan.proofs.Common.{exprs, Has, choice_view, simple_operands, AreLonger, AreUnpaired, IsLongerAt, is_longer}
use Rattle.cord_plan.proofs.Common.{operation_expression, Takes, Operation, or_nothing, operation, operations, is_dead, is_first, is_from}
use Rattle.cord_plan.proofs.Common.{some_from, expr_view}
use Rattle.std.proofs.Math.Seq.{take-append_seam}
use Rattle.std.proofs.lemmas.List.Recursion.{or_push}
use Rattle.cord_plan.specs.Planned.{Build, Made, Measure, gives}
use Rattle.cord_syntax.specs.declared.statements.Statement.TheVariants.{Let, File, Eager, Lazy, Chars, Nul, FromFn, Cat, Catn, Catc, Substr}
use Rattle.cord_syntax.specs.declared.statements.Statement.TheVariants.{Balance, EcToCord, Sprintf, Put}
use Rattle.cord_plan.specs.declared.planner.expression_facts.ExpressionFacts.{ExpressionFacts}
use Rattle.cord_plan.specs.declared.expressions.Expr as expressions
use Rattle.cord_plan.specs.inner.Choices.{AreChoices, IsKnown, IsNext}
use Rattle.cord_plan.proofs.ExpressionFacts.{known_more}
use Rattle.cord_plan.specs.declared.planner.operand_choices.Choice as program
use Rattle.cord_plan.proofs.Choices.{entry_of, chosen_simple}
use Rattle.cord_plan.proofs.Chosen.{grown_keeps, last_or}
use Rattle.cord_plan.proofs.Pushed.{get_last}

-- what a call through a whole slice of a vector leaves in it
pub written_back : {X : Type 0} (n : ℕ) (new old : List X) → length new ≡ n → take n (new ++ drop (length new) old) ≡ new
written_back n new old size = subst (λ (m : ℕ). take m (new ++ drop (length new) old) ≡ new) size
    (take-append_seam new (drop (length new) old))

-- ---- the lines whose expressions are taken
pub none_taken : (taken : List Bool) → Takes [] taken taken
none_taken taken = record { size = refl; is = λ p lt. sym (or-false (get_or taken p false)) }

some_append : (p : ℕ) (cs ds : List Choice) → some_from p (cs ++ ds) ≡ (some_from p cs || some_from p ds)
some_append p [] ds = refl
some_append p (c ∷ cs) ds = ap (λ (v : Bool). is_from p c || v) (some_append p cs ds)
    ∙ sym (or_assoc (is_from p c) (some_from p cs) (some_from p ds))

taken_then : (cs ds : List Choice) (old mid new : List Bool) → Takes cs old mid → Takes ds mid new → Takes (cs ++ ds) old new
taken_then cs ds old mid new one two = record {
  size = two.size ∙ one.size;
  is = λ p lt.
      two.is p (omega (arith, lt, one.size))
      ∙ (ap (λ (v : Bool). v || some_from p ds) (one.is p lt)
      ∙ (or_assoc (get_or old p false) (some_from p cs) (some_from p ds)
      ∙ ap (λ (v : Bool). get_or old p false || v) (sym (some_append p cs ds))));
}

-- a choice more of a list
pub more_taken : (cs : List program.Choice) (i : ℕ) (c : program.Choice) (old mid new : List Bool) → i < length cs → c ≡ get_or cs i c →
    Takes (map choice_view (take i cs)) old mid → Takes (choice_view c ∷ []) mid new → Takes (map choice_view (take (i + 1) cs)) old new
more_taken cs i c old mid new lt is before one =
    subst (λ (ds : List Choice). Takes ds old new)
    (sym (ap (map choice_view) (take_more cs i c lt ∙ ap (λ (d : program.Choice). take i cs ++ d ∷ []) (sym is))
    ∙ map-append choice_view (take i cs) (c ∷ [])))
    (taken_then (map choice_view (take i cs)) (choice_view c ∷ []) old mid new before one)

-- ---- the operations that are made
given : (v : Bool) (line : ℕ) (x : List ℕ) (m : Made) (o : Option Expr) → operation_expression (Build line x m) ≡ o →
    operation_expression (Measure line x m) ≡ o → operation_expression (gives v line x m) ≡ o
given true line x m o build measure = measure
given false line x m o build measure = build

-- the expression of the operation that a line's choices make
expression_made : (s : List Statement) (later : List ℕ → ℕ → Bool) (t : ChoiceTable) (b : ℕ) (l : Statement) (dead : Bool) →
    operation_expression (operation l (or_nothing (operands_chosen s later t b l (defining l)).0) dead false)
    ≡ (operands_chosen s later t b l (defining l)).0
expression_made s later t b (Cat line target left right) dead = given (dead || false) line target _ _ refl refl
expression_made s later t b (Catn line target many) dead = given (dead || false) line target _ _ refl refl
expression_made s later t b (Catc line target operand byte) dead = given (dead || false) line target _ _ refl refl
expression_made s later t b (Chars line target byte n) dead = given (dead || false) line target _ _ refl refl
expression_made s later t b (Nul line target n) dead = given (dead || false) line target _ _ refl refl
expression_made s later t b (Substr line target operand start n) dead = given (dead || false) line target _ _ refl refl
expression_made s later t b (Put line operand) dead = refl
expression_made s later t b (Let line target text) dead = given dead line target _ _ refl refl
expression_made s later t b (File line target path) dead = given dead line target _ _ refl refl
expression_made s later t b (Eager line target path) dead = given dead line target _ _ refl refl
expression_made s later t b (Lazy line target path) dead = given dead line target _ _ refl refl
expression_made s later t b (FromFn line target function n) dead = given dead line target _ _ refl refl
expression_made s later t b (Balance line target operand) dead = given dead line target _ _ refl refl
expression_made s later t b (EcToCord line target extensible) dead = given dead line target _ _ refl refl
expression_made s later t b (Sprintf line target text format arguments) dead = given dead line target _ _ refl refl
expression_made s later t b l dead = refl

module _ (later : List ℕ → ℕ → Bool) where
  no_entries : (p : ℕ) (ls : List Statement) → operations later [] p ls [] ≡ []
  no_entries p [] = refl
  no_entries p (l ∷ ls) = refl

  -- with the operation of one line more
  operation_then : (n p : ℕ) (ls : List Statement) (es : ChoiceTable) (en : Option Expr × List Choice) (l : Statement) → p + length es ≡ n →
      slice_get ls (length es) ≡ Some l → operations later [] p ls (es ++ en ∷ [])
      ≡ operations later [] p ls es ++ operation l (or_nothing en.0) (is_dead later n (target_of l)) false ∷ []
  operation_then n p [] es en l size there = let bad : ⊥ = cc in absurd bad
  operation_then n p (m ∷ ls) [] en l size there =
      let same : m ≡ l = cc in
      let place : p ≡ n = omega (arith, size) in
      ap (λ (os : List Operation). operation m (or_nothing en.0) (is_dead later p (target_of m)) false ∷ os) (no_entries (p + 1) ls)
      ∙ (ap (λ (k : Statement). operation k (or_nothing en.0) (is_dead later p (target_of k)) false ∷ []) same
      ∙ ap (λ (k : ℕ). operation l (or_nothing en.0) (is_dead later k (target_of l)) false ∷ []) place)
  operation_then n p (m ∷ ls) (e ∷ es) en l size there =
      let next : (p + 1) + length es ≡ n = omega (arith, size) in
      ap (λ (os : List Operation). operation m (or_nothing e.0) (is_dead later p (target_of m)) false ∷ os)
      (operation_then n (p + 1) ls es en l next there)

-- ---- the next line
module _ (s : List Statement) (later : List ℕ → ℕ → Bool) where
  module _ (b : ℕ) (l : Statement) where
    entry_without : (t : ChoiceTable) → simple_operands l ≡ None → operands_chosen s later t b l (defining l) ≡ (None, [])
    entry_without t none = chosen_simple s later t b l ∙ ap (λ (o : Option (List (List ℕ))). entry_of s later t b l o) none

    -- a line that isn't simple has no expression, and takes none
    pub next_without : (table : List (Option Expr)) (taken : List Bool) (known : ExpressionFacts) (next : Option expressions.Expr × Bool) →
        simple_operands l ≡ None → next.0 ≡ None → next.1 ≡ false → IsKnown s b table known →
        IsNext s later b l table taken taken known next
    next_without table taken known next none bare short before = record {
      expression = λ t has. ap (option_map expr_view) bare ∙ sym (ap (λ (en : Option Expr × List Choice). en.0) (entry_without t none));
      taken = λ t has. subst (λ (en : Option Expr × List Choice). Takes en.1 taken taken) (sym (entry_without t none)) (none_taken taken);
      longer = λ t has is. let bad : ⊥ = cc in absurd bad;
      known = known_more s b table (option_map expr_view next.0) known before;
    }

    -- a simple line with these choices
    pub next_with : (table : List (Option Expr)) (old new : List Bool) (xs : List (List ℕ)) (cs : List Choice) (known : ExpressionFacts)
        (next : Option expressions.Expr × Bool) → simple_operands l ≡ Some xs → AreChoices s later b l table cs → Takes cs old new →
        option_map expr_view next.0 ≡ expr_with l (map (λ c. expr_of c) cs) → next.1 ≡ is_longer b l cs →
        IsKnown s (b + 1) (table ++ expr_with l (map (λ c. expr_of c) cs) ∷ []) known → IsNext s later b l table old new known next
    next_with table old new xs cs known next simple chosen takes made extends after = record {
      expression = λ t has. made ∙ ap (λ (en : Option Expr × List Choice). en.0) (entry_is t has);
      taken = λ t has. subst (λ (en : Option Expr × List Choice). Takes en.1 old new) (entry_is t has) takes;
      longer = λ t has is. ap (λ (en : Option Expr × List Choice). is_longer b l en.1) (sym (entry_is t has)) ∙ (sym extends ∙ is);
      known = subst (λ (e : Option Expr). IsKnown s (b + 1) (table ++ e ∷ []) known) (sym made) after;
    }
      where
        entry_is : (t : ChoiceTable) → Has table t →
            (expr_with l (map (λ c. expr_of c) cs), cs) ≡ operands_chosen s later t b l (defining l)
        entry_is t has =
            ap (λ (ds : List Choice). (expr_with l (map (λ c. expr_of c) ds), ds)) (chosen t has)
            ∙ sym (chosen_simple s later t b l ∙ ap (λ (o : Option (List (List ℕ))). entry_of s later t b l o) simple)

  -- ---- the lines so far
  -- the operations of the lines before b, and the lines whose expressions those take
  pub record IsBegun (b : ℕ) (made : List Operation) (taken : List Bool) : Type 0 where
    pub table : ChoiceTable
    pub has : Has (map operation_expression made) table
    pub grows : grown s later table b (drop b s) ≡ exprs s later
    pub long : length table ≡ b
    pub are : made ≡ operations later [] 0 s table
    pub size : length taken ≡ length s
    pub is : (p : ℕ) → p < length s → get_or taken p false ≡ is_first p table

  pub begun_none : (taken : List Bool) → taken ≡ replicate (length s) false → IsBegun 0 [] taken
  begun_none taken none = record {
    table = [];
    has = refl;
    grows = refl;
    long = refl;
    are = sym (no_entries later 0 s);
    size = ap length none ∙ length-replicate (length s) false;
    is = λ p lt. ap (λ (ts : List Bool). get_or ts p false) none ∙ get_or-replicate (length s) p false false lt;
  }

  module _ (b : ℕ) (l : Statement) (made : List Operation) (old new : List Bool) (within : b < length s) (here : l ≡ get_or s b l)
      (so_far : IsBegun b made old) (facts : ExpressionFacts) (next : Option expressions.Expr × Bool)
      (is_next : IsNext s later b l (map operation_expression made) old new facts next) where
    abbrev entry : Option Expr × List Choice
    entry = operands_chosen s later so_far.table b l (defining l)

    grows_on : grown s later (so_far.table ++ entry ∷ []) (b + 1) (drop (b + 1) s) ≡ exprs s later
    grows_on =
        ap (λ (m : Statement). grown s later (so_far.table ++ operands_chosen s later so_far.table b m (defining m) ∷ []) (b + 1)
        (drop (b + 1) s)) here
        ∙ (sym (at_drop_more (λ (ls : List Statement). grown s later so_far.table b ls) s b l within)
        ∙ so_far.grows)

    at_place : slice_get s (length so_far.table) ≡ Some l
    at_place = ap (λ (n : ℕ). slice_get s n) so_far.long ∙ slice_get_read s (length s) b l refl within here

    -- the operation of the line has the expression that its choices make
    module _ (o : Operation)
        (is_made : o ≡ operation l (or_nothing (option_map expr_view next.0)) (is_dead later b (target_of l)) false) where
      made_so : o ≡ operation l (or_nothing entry.0) (is_dead later b (target_of l)) false
      made_so = is_made ∙ ap (λ (f : Option Expr). operation l (or_nothing f) (is_dead later b (target_of l)) false)
          (is_next.expression so_far.table so_far.has)

      pub has_expression : map operation_expression (made ++ o ∷ []) ≡ map operation_expression made ++ option_map expr_view next.0 ∷ []
      has_expression =
          map-append operation_expression made (o ∷ [])
          ∙ ap (λ (f : Option Expr). map operation_expression made ++ f ∷ [])
          (ap operation_expression made_so ∙ expression_made s later so_far.table b l (is_dead later b (target_of l))
          ∙ sym (is_next.expression so_far.table so_far.has))

      -- a line more
      pub begun_then : IsBegun (b + 1) (made ++ o ∷ []) new
      begun_then = record {
        table = so_far.table ++ entry ∷ [];
        has =
            map-append (λ (one : Option Expr × List Choice). one.0) so_far.table (entry ∷ [])
            ∙ (ap (λ (es : List (Option Expr)). es ++ entry.0 ∷ []) so_far.has
            ∙ (ap (λ (f : Option Expr). map operation_expression made ++ f ∷ []) (sym (is_next.expression so_far.table so_far.has))
            ∙ sym has_expression));
        grows = grows_on;
        long = length-append so_far.table (entry ∷ []) ∙ ap (λ (n : ℕ). n + 1) so_far.long;
        are = ap (λ (os : List Operation). os ++ o ∷ []) so_far.are
            ∙ (ap (λ (p : Operation). operations later [] 0 s so_far.table ++ p ∷ []) made_so
            ∙ sym (operation_then later b 0 s so_far.table entry l (omega (arith, so_far.long)) at_place));
        size = (is_next.taken so_far.table so_far.has).size ∙ so_far.size;
        is = λ p lt.
            (is_next.taken so_far.table so_far.has).is p (omega (arith, lt, so_far.size))
            ∙ (ap (λ (v : Bool). v || some_from p entry.1) (so_far.is p lt)
            ∙ sym (or_push (λ t. is_first p t) (λ en. some_from p en.1) refl (λ en t. refl) so_far.table entry));
      }

    there : slice_get (exprs s later) b ≡ Some entry
    there = ap (λ (t : ChoiceTable). slice_get t b) (sym grows_on)
        ∙ grown_keeps s later (so_far.table ++ entry ∷ []) (b + 1) (drop (b + 1) s) b entry
        (ap (λ (n : ℕ). slice_get (so_far.table ++ entry ∷ []) n) (sym so_far.long) ∙ get_last so_far.table entry)

    -- it is reported whether it extends the one before it
    pub longer_then : (all : List Bool) → length all ≡ b → AreLonger s later all → AreLonger s later (all ++ next.1 ∷ [])
    longer_then all size before p h = elim (last_or all next.1 p true h) [
      | inl f ↦ before p f
      | inr f ↦ subst (λ (n : ℕ). IsLongerAt s later n) (sym (f.0 ∙ size)) (record {
        line = l;
        entry = entry;
        at = slice_get_read s (length s) b l refl within here;
        entered = there;
        longer = is_next.longer so_far.table so_far.has (sym f.1);
      })
    ]

  -- after the last line
  pub all_begun : (b : ℕ) (made : List Operation) (taken : List Bool) → length s ≤ b → length made ≡ length taken → IsBegun b made taken →
      AreUnpaired s later made taken
  all_begun b made taken past long so_far = record {
    are = so_far.are ∙ ap (operations later [] 0 s) all;
    size = so_far.size;
    long = long;
    is = λ p lt. so_far.is p lt ∙ ap (λ (t : ChoiceTable). is_first p t) all;
  }
    where
      all : so_far.table ≡ exprs s later
      all = sym (at_drop_all (λ (ls : List Statement). grown s later so_far.table b ls) s b past) ∙ so_far.grows
