-- Refusals that are passed on.
use Rattle.std.proofs.Common.{◌≡◌, Result, Ok, Err, ap, sym, subst}
use Rattle.std.specs.Prelude.{IfErr, IsErrAnd}
use Rattle.cord_meaning.specs.declared.ends.FaultKind.{FaultKind}
use Rattle.cord_run.specs.declared.stops.Stop.{Stop}
use Rattle.cord_run.specs.declared.stops.Stop.TheVariants as stops
use Rattle.cord_run.specs.inner.Contents.{IsStopBy, IsStopOver}

-- what holds of the stop that an error is
pub passed_on : {T E : Type 0} (P : E → Type 0) (stop : E) (r : Result T E) → IsErrAnd r (λ x. x ≡ stop) → P stop → IfErr r P
passed_on P stop (Ok x) is h = tt
passed_on P stop (Err e) is h = subst P (sym is) h

-- the error that a `?` hands on is what the function returns
pub handed_on : {T E : Type 0} (error : E) (r : Result T E) → IsErrAnd r (λ x. x ≡ error) → Err error ≡ r
handed_on error (Ok x) is = absurd is
handed_on error (Err x) is = ap Err (sym is)

-- a stop whose fault says more
module _ (P Q : FaultKind → Type 0) (says : (kind : FaultKind) → P kind → Q kind) where
  pub stop_by : (stop : Stop) → IsStopBy P stop → IsStopBy Q stop
  stop_by (stops.Fault kind) h = says kind h
  stop_by stops.NoMemory h = tt
  stop_by _ h = h

  pub stop_over : (stop : Stop) → IsStopBy P stop → IsStopOver Q stop
  stop_over (stops.Fault kind) h = says kind h
  stop_over stops.WriteFailed h = h
  stop_over _ h = tt
