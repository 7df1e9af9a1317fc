use Rattle.std.specs.Prelude.{◌≡◌, ◌+◌, ◌<◌, ◌∷◌, ◌++◌}
use Rattle.cord_plan.proofs.Common.{ℕ, false, List, [], length, get_or, take, map, refl, sym, ap, ◌∙◌, arith, map-append, take_more}
use Rattle.cord_plan.proofs.Common.{Statement, defining, operation, or_nothing, trivial, operation_view}
use Rattle.cord_plan.specs.declared.operations.Operation.{Operation}
use Rattle.cord_plan.proofs.plans.trivial_operations.Goals as goal

-- the trivial plan of one line more
trivial_then : (xs : List Statement) (l : Statement) → trivial (xs ++ l ∷ []) ≡ trivial xs ++ operation l (or_nothing (defining l)) false
    false
    ∷ []
trivial_then [] l = refl
trivial_then (x ∷ xs) l = ap (λ os. operation x (or_nothing (defining x)) false false ∷ os) (trivial_then xs l)

-- the operations of the lines before i, and the next one
one_more : (xs : List Statement) (i : ℕ) (l : Statement) (before : List Operation) (o : Operation) → i < length xs → l ≡ get_or xs i l →
    map operation_view before ≡ trivial (take i xs) → operation_view o ≡ operation l (or_nothing (defining l)) false false →
    map operation_view (before ++ o ∷ []) ≡ trivial (take (i + 1) xs)
one_more xs i l before o within at so_far made =
    map-append operation_view before (o ∷ [])
    ∙ (ap (λ os. os ++ operation_view o ∷ []) so_far
    ∙ (ap (λ p. trivial (take i xs) ++ p ∷ []) made
    ∙ (sym (trivial_then (take i xs) l)
    ∙ ap trivial (ap (λ m. take i xs ++ m ∷ []) at ∙ sym (take_more xs i l within)))))

pub lines-preserved : goal.lines-preserved
lines-preserved c = record {
  so_far = ap (map operation_view) c.push_reserved.ensures.items
      ∙ one_more _ _ _ _ _ c.lines-test.true c.statement-item.is c.lines.invariant.so_far
      (c.in_ok-operation.ensures.made ∙ ap (λ e. operation c.statement-item.result (or_nothing e) false false) c.in_ok-expression.ensures.made);
  room = omega (arith, c.lines-test.true, c.lines.invariant.room, c.push_reserved.ensures.len, c.push_reserved.ensures.capacity);
}
