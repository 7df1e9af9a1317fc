-- What holds of a plan, what the later members of a `cat` stand for, and the text of fragments of a plan's lines.
use Rattle.std.specs.Prelude.{◌≡◌, ℕ, Bool, true, List, Some, All, slice_get, false, [], ◌∷◌, ◌++◌}
use Rattle.std.specs.List.{IsDistinct}
use Rattle.std.specs.Str.{bytes_eq}
use Rattle.cord_plan.specs.Extending.{Extends}
use Rattle.cord_plan.specs.Verbatim.{KeepsNoOther}
use Rattle.cord_plan.specs.Planned.{Operation}
use Rattle.cord_plan.specs.declared.expressions.Rest.{Rest, fold-Rest}
use Rattle.cord_plan.specs.Views.{expr_step, single_step, pair_step, rest_step, members_step}
use Rattle.cord_plan.specs.Exprs.{Expr, Exprs, nothing, member}
use Rattle.cord_plan.specs.PlanText.{decimal, expr, more_exprs, number, quoted, printed_arguments}
use Rattle.cord_plan.specs.declared.plan_text.fragments.Fragment.{Fragment}
use Rattle.cord_plan.specs.declared.plan_text.fragments.Fragment.TheVariants.{Plain, Name, Count, Number, Path, Arguments}

-- where it is said of a place, the operation there extends the one before it
abbrev pub AreExtending : List Bool → List Operation → Type 0
AreExtending reported operations = (place : ℕ) → slice_get reported place ≡ Some true → Extends operations place

-- what holds of the operations of a plan, and of its names
pub record HasPlanFacts (reported : List Bool) (operations : List Operation) (names : List (List ℕ)) : Type 0 where
  pub kept : All KeepsNoOther operations
  pub extending : AreExtending reported operations
  pub distinct : IsDistinct bytes_eq names

-- the members after the ones in front
abbrev pub rest_view : Rest → List Expr
rest_view = fold-Rest Expr (List Expr) Exprs (List Expr) (List Expr) expr_step rest_step members_step
    pair_step single_step

-- whether there are no members
abbrev pub is_nothing : Exprs → Bool
is_nothing nothing = true
is_nothing (member e es) = false

-- the text of a fragment
abbrev pub fragment_text : Fragment → List ℕ
fragment_text (Plain bytes) = bytes.now
fragment_text (Name name) = name.now
fragment_text (Count n) = decimal n
fragment_text (Number operand) = number operand.now
fragment_text (Path path) = quoted path.now
fragment_text (Arguments arguments) = printed_arguments arguments.now

abbrev pub fragments_text : List Fragment → List ℕ
fragments_text [] = []
fragments_text (f ∷ fs) = fragment_text f ++ fragments_text fs

-- the text of members, where this stands before the first one
abbrev pub exprs_after : List ℕ → Exprs → List ℕ
exprs_after first nothing = []
exprs_after first (member e es) = first ++ (expr e ++ more_exprs es)
