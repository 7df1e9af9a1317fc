-- The trivial plan is the case without pairs, where no length alone is computed.
use Rattle.std.specs.Prelude.{◌≡◌, ◌+◌, ◌∷◌}
use Rattle.cord_plan.proofs.Common.{ℕ, suc, false, List, [], Option, Some, None, refl, sym, ap, ◌∙◌, arith, slice_get, Statement, Expr}
use Rattle.cord_plan.proofs.Common.{defining, operation, or_nothing, trivial, Decisions, HasKinds, MeetsConditions, decided, decided_from}
use Rattle.cord_plan.proofs.Planning.{defining_simple}

abbrev defining_at : Option Statement → Expr
defining_at None = or_nothing None
defining_at (Some l) = or_nothing (defining l)

abbrev pub plain_decisions : List Statement → Decisions
plain_decisions s = record { exprs = λ p. defining_at (slice_get s p); dead = λ p. false; paired = λ p. false; source = λ b x. None }

from_place : (s : List Statement) (p : ℕ) (rest : List Statement) → ((k : ℕ) → slice_get s (p + k) ≡ slice_get rest k) →
    trivial rest ≡ decided_from (plain_decisions s) p rest
from_place s p [] here = refl
from_place s p (l ∷ rest) here =
    let place : p ≡ p + 0 = omega arith in
    let line : slice_get s p ≡ Some l = ap (λ (n : ℕ). slice_get s n) place ∙ here 0 in
    λ i. operation l (defining_at (sym line i)) false false
    ∷ from_place s (p + 1) rest (λ k. (let more : p + 1 + k ≡ p + suc k = omega arith in ap (λ (n : ℕ). slice_get s n) more ∙ here (suc k)))
    i

pub trivial_decided : (s : List Statement) → trivial s ≡ decided (plain_decisions s) s
trivial_decided s = from_place s 0 s (λ k. (let same : 0 + k ≡ k = omega arith in ap (λ (n : ℕ). slice_get s n) same))

pub trivial_meets : (s : List Statement) → HasKinds s → MeetsConditions s (plain_decisions s)
trivial_meets s kinds = record {
  kinds = kinds;
  defining = λ p l here simple. (let o = defining_simple l simple in o.1 ∙ ap (λ (e : Expr). Some e)
      (sym (ap defining_at here ∙ ap or_nothing o.1)));
  inlined = λ a b x from. (let bad : ⊥ = cc in absurd bad);
  dead = λ p x e assigned. (let bad : ⊥ = cc in absurd bad);
  paired = λ p x e assigned. (let bad : ⊥ = cc in absurd bad);
}
