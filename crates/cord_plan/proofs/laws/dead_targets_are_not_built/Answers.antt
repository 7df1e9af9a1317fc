use Rattle.std.specs.Prelude.{◌≡◌, ◌+◌}
use Rattle.cord_plan.proofs.Common.{ℕ, true, subst, arith, exprs}
use Rattle.cord_plan.proofs.Built.{built_later}
use Rattle.cord_plan.proofs.laws.dead_targets_are_not_built.Goals as goal

pub returns : goal.returns
returns c = λ s later p line x made reported e.
    let same : 0 + p ≡ p = omega arith in
    reported.read x p (subst (λ (n : ℕ). later x n ≡ true) same (built_later later (exprs s later) 0 s (exprs s later) p line x made e))
