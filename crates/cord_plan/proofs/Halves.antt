-- The members in front and those after them, on a walk over both.
use Rattle.std.specs.Prelude.{◌≡◌, ◌<◌, ◌≤◌, ◌+◌, ◌∷◌, ◌==◌}
use Rattle.cord_plan.proofs.Common.{false, List, [], length, map, Option, Some, None, Bor, refl, sym, ap, ◌∙◌, subst, arith, IfSome, ne_eqb}
use Rattle.cord_plan.proofs.Common.{append, is_nothing, Shared, prefix_view, members_of, members_view, shared_view, Members}
use Rattle.cord_plan.specs.Exprs as plain
use Rattle.cord_plan.proofs.MemberTexts.{weights}

weights_append : (a b : plain.Exprs) → weights (append a b) ≡ weights a + weights b
weights_append plain.nothing b = omega arith
weights_append (plain.member e a) b = let more : weights (append a b) ≡ weights a + weights b = weights_append a b in omega arith

some_weight : (rest : List Shared) → 0 < length rest → 0 < weights (members_of (map shared_view rest))
some_weight [] h = absurd (omega (arith, h))
some_weight (m ∷ rest) h = omega arith

append_some : (a : plain.Exprs) (e : plain.Expr) (es : plain.Exprs) → is_nothing (append a (plain.member e es)) ≡ false
append_some plain.nothing e es = refl
append_some (plain.member f a) e es = refl

-- there are no members where none stand after those in front
pub nothing_reported : (o : Option (Bor Members)) (rest : List Shared) → IfSome o (λ _. 0 < length rest) →
    (length rest == 0) ≡ is_nothing (append (prefix_view o) (members_of (map shared_view rest)))
nothing_reported None [] after = refl
nothing_reported None (m ∷ rest) after = ne_eqb (length (m ∷ rest)) 0 (λ e. omega (arith, e))
nothing_reported (Some prefix) [] after = absurd (omega (arith, after))
nothing_reported (Some prefix) (m ∷ rest) after =
    ne_eqb (length (m ∷ rest)) 0 (λ e. omega (arith, e))
    ∙ sym (append_some (members_view prefix.now) (shared_view m) (members_of (map shared_view rest)))

module _ (all : plain.Exprs) (o : Option (Bor Members)) (rest : List Shared)
    (halves : all ≡ append (prefix_view o) (members_of (map shared_view rest))) where
  -- where none stand in front, and where some do
  pub halves_None : o ≡ None → all ≡ members_of (map shared_view rest)
  halves_None is = halves ∙ ap (λ (p : Option (Bor Members)). append (prefix_view p) (members_of (map shared_view rest))) is

  pub halves_Some : (prefix : Bor Members) → o ≡ Some prefix → all ≡ append (members_view prefix.now) (members_of (map shared_view rest))
  halves_Some prefix is = halves ∙ ap (λ (p : Option (Bor Members)). append (prefix_view p) (members_of (map shared_view rest))) is

  -- those after the prefix are no heavier than all of them, and the prefix is lighter
  pub rest_lighter : weights (members_of (map shared_view rest)) ≤ weights all
  rest_lighter =
      let sum : weights all ≡ weights (prefix_view o) + weights (members_of (map shared_view rest)) =
      ap weights halves ∙ weights_append (prefix_view o) (members_of (map shared_view rest)) in
      omega (arith, sum)

  pub prefix_lighter : IfSome o (λ _. 0 < length rest) → (prefix : Bor Members) → o ≡ Some prefix →
      weights (members_view prefix.now) < weights all
  prefix_lighter after prefix is =
      let some : 0 < length rest = subst (λ (p : Option (Bor Members)). IfSome p (λ _. 0 < length rest)) is after in
      let more : 0 < weights (members_of (map shared_view rest)) = some_weight rest some in
      let sum : weights all ≡ weights (members_view prefix.now) + weights (members_of (map shared_view rest)) =
      ap weights (halves_Some prefix is) ∙ weights_append (members_view prefix.now) (members_of (map shared_view rest)) in
      omega (arith, more, sum)

  -- so what bounds the walks over members falls
  pub rest_falls : weights (members_of (map shared_view rest)) < weights all + 1
  rest_falls = let no_heavier : weights (members_of (map shared_view rest)) ≤ weights all = rest_lighter in omega (arith, no_heavier)

  pub prefix_falls : IfSome o (λ _. 0 < length rest) → (prefix : Bor Members) → o ≡ Some prefix →
      weights (members_view prefix.now) + 1 < weights all + 1
  prefix_falls after prefix is =
      let lighter : weights (members_view prefix.now) < weights all = prefix_lighter after prefix is in
      omega (arith, lighter)
