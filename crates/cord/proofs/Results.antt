-- What holds of a result that is an error.
use Rattle.std.proofs.Common.{◌≡◌, Ok, Err, sym, ◌∙◌, subst}
use Rattle.std.specs.Prelude.{OnErr, IfErr, IsErrAnd}
use Rattle.std.specs.declared.result.Result.{Result}

-- what holds whatever the result is
pub on_err : {T E : Type 0} (P : Type 0) (r : Result T E) → P → OnErr r P
on_err P (Ok x) p = tt
on_err P (Err y) p = p

err_same : {T E : Type 0} (y z : E) → ◌≡◌ {A = Result T E} (Err y) (Err z) → y ≡ z
err_same y z h = cc

-- an error that was handed on means what it meant
pub handed_on : {T E : Type 0} (P : Type 0) (wanted given : E) (r : Result T E) → IsErrAnd r (λ y. y ≡ given) → (given ≡ wanted → P) →
    r ≡ Err wanted → P
handed_on P wanted given (Ok x) is known e = absurd is
handed_on P wanted given (Err y) is known e = known (sym is ∙ err_same y wanted e)

-- what holds of an error holds of it where it was handed on
pub passed_on : {T E : Type 0} (P : E → Type 0) (given : E) (r : Result T E) → IsErrAnd r (λ y. y ≡ given) → P given → IfErr r P
passed_on P given (Ok x) is p = absurd is
passed_on P given (Err y) is p = subst P (sym is) p
