-- What an operation is to control, beside its statement.
use Rattle.std.specs.Prelude.{◌≡◌}
use Rattle.cord_plan.proofs.Common.{Bool, true, false, Some, refl, sym, Statement, Repeat, If, State, shape_of, line_of, repeat_count}
use Rattle.cord_plan.proofs.Common.{holds_of, compares, Expr, Operation, operation, Holding, operation_shape, operation_line}
use Rattle.cord_plan.proofs.Common.{operation_count, operation_holds}
use Rattle.cord_plan.proofs.Evaluation.{plain_number}

-- an operation is to control what its statement is, where what is held has the statement's numbers
pub record IsAlike (l : Statement) (o : Operation) : Type 0 where
  pub shape : operation_shape o ≡ shape_of l
  pub line : operation_line o ≡ line_of l
  pub count : (h : Holding) (s : State) → h.numbers ≡ s.numbers → repeat_count l s ≡ operation_count o (Some h)
  pub holds : (h : Holding) (s : State) → h.numbers ≡ s.numbers → holds_of l s ≡ operation_holds o (Some h)

-- so it is for each statement
pub all_alike : (l : Statement) (e : Expr) (dead paired : Bool) → IsAlike l (operation l e dead paired)
all_alike (Repeat line count) e dead paired =
    record { shape = refl; line = refl; count = λ h s same. sym (plain_number h s same count); holds = λ h s same. refl }
all_alike (If line left relation right) e dead paired = record {
  shape = refl;
  line = refl;
  count = λ h s same. refl;
  holds = λ h s same. λ i. compares relation (sym (plain_number h s same left) i) (sym (plain_number h s same right) i);
}
all_alike l e true paired = record { shape = refl; line = refl; count = λ h s same. refl; holds = λ h s same. refl }
all_alike l e false true = record { shape = refl; line = refl; count = λ h s same. refl; holds = λ h s same. refl }
all_alike l e false false = record { shape = refl; line = refl; count = λ h s same. refl; holds = λ h s same. refl }
