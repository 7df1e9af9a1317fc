-- A plan that meets the conditions simulates its script.
use Rattle.std.specs.Prelude.{◌≡◌, ◌<◌, ◌+◌, ◌∷◌}
use Rattle.cord_plan.proofs.Common.{ℕ, zero, suc, List, [], map, Option, Some, None, refl, sym, subst, arith, slice_get, IsSome, FileSystem}
use Rattle.cord_plan.proofs.Common.{Statement, Shape, Straight, Next, State, start_state, act, shape_of, line_of, Agree, IsControl}
use Rattle.cord_plan.proofs.Common.{Simulates, Operation, operation, Holding, does, operation_shape, operation_line, plan_rules}
use Rattle.cord_plan.proofs.Common.{start_holding, Decisions, MeetsConditions, decided, decided_from}
use Rattle.cord_meaning.specs.Statements.{rules}
use Rattle.cord_plan.proofs.Controls.{all_alike}
use Rattle.cord_plan.proofs.Invariant.{moves}
use Rattle.cord_plan.proofs.Decided.{Related, agrees}

module _ (d : Decisions) where
  -- the operation of a line
  abbrev decided_at : ℕ → Statement → Operation
  decided_at p l = operation l (d.exprs p) (d.dead p) (d.paired p)

  at_offset : (p : ℕ) (s : List Statement) (q : ℕ) (l : Statement) (o : Operation) → slice_get s q ≡ Some l →
      slice_get (decided_from d p s) q ≡ Some o → decided_at (p + q) l ≡ o
  at_offset p [] q l o e f = let bad : ⊥ = cc in absurd bad
  at_offset p (k ∷ s) zero l o e f =
      let same : k ≡ l = cc in
      let here : decided_at p k ≡ o = cc in
      let place : p ≡ p + 0 = omega arith in
      subst (λ (n : ℕ). decided_at n l ≡ o) place (subst (λ (w : Statement). decided_at p w ≡ o) same here)
  at_offset p (k ∷ s) (suc q) l o e f =
      let place : p + 1 + q ≡ p + suc q = omega arith in
      subst (λ (n : ℕ). decided_at n l ≡ o) place (at_offset (p + 1) s q l o e f)

  at_place : (s : List Statement) (p : ℕ) (l : Statement) (o : Operation) → slice_get s p ≡ Some l → slice_get (decided d s) p ≡ Some o →
      decided_at p l ≡ o
  at_place s p l o e f =
      let place : 0 + p ≡ p = omega arith in
      subst (λ (n : ℕ). decided_at n l ≡ o) place (at_offset 0 s p l o e f)

  decided_shapes : (p : ℕ) (s : List Statement) → map shape_of s ≡ map operation_shape (decided_from d p s)
  decided_shapes p [] = refl
  decided_shapes p (l ∷ s) = λ i. sym (all_alike l (d.exprs p) (d.dead p) (d.paired p)).shape i ∷ decided_shapes (p + 1) s i

  decided_lines : (p : ℕ) (s : List Statement) → map line_of s ≡ map operation_line (decided_from d p s)
  decided_lines p [] = refl
  decided_lines p (l ∷ s) = λ i. sym (all_alike l (d.exprs p) (d.dead p) (d.paired p)).line i ∷ decided_lines (p + 1) s i

module _ (s : List Statement) (d : Decisions) (ok : MeetsConditions s d) (limit : ℕ) (files : FileSystem) where
  abbrev Beside : ℕ → State → Option Holding → Type 0
  Beside p f t = Related s d ok limit files p f t

  counts : (p : ℕ) (l : Statement) (o : Operation) → slice_get s p ≡ Some l → slice_get (decided d s) p ≡ Some o →
      (f : State) (t : Option Holding) → Beside p f t → (rules limit files).count l f ≡ (plan_rules limit files).count o t
  counts p l o e g f None inv = absurd inv
  counts p l o e g f (Some h) inv = subst (λ (w : Operation). (rules limit files).count l f ≡ (plan_rules limit files).count w (Some h))
      (at_place d s p l o e g) ((all_alike l (d.exprs p) (d.dead p) (d.paired p)).count h f inv.numbers)

  compare : (p : ℕ) (l : Statement) (o : Operation) → slice_get s p ≡ Some l → slice_get (decided d s) p ≡ Some o →
      (f : State) (t : Option Holding) → Beside p f t → (rules limit files).holds l f ≡ (plan_rules limit files).holds o t
  compare p l o e g f None inv = absurd inv
  compare p l o e g f (Some h) inv = subst (λ (w : Operation). (rules limit files).holds l f ≡ (plan_rules limit files).holds w (Some h))
      (at_place d s p l o e g) ((all_alike l (d.exprs p) (d.dead p) (d.paired p)).holds h f inv.numbers)

  passes : (p q : ℕ) (x : Shape) → slice_get (map shape_of s) p ≡ Some x → IsControl x → Next (map shape_of s) p q →
      (f : State) (t : Option Holding) → Beside p f t → Beside q f t
  passes p q x at control next f None inv = inv
  passes p q x at control next f (Some h) inv = moves s d ok limit p q x at control next f h inv

  acts : (p : ℕ) (l : Statement) (o : Operation) → slice_get s p ≡ Some l → slice_get (decided d s) p ≡ Some o → shape_of l ≡ Straight →
      (f : State) (t : Option Holding) → Beside p f t → Agree (Beside (p + 1)) ((rules limit files).act p l f)
      ((plan_rules limit files).act p o t)
  acts p l o e g simple f None inv = absurd inv
  acts p l o e g simple f (Some h) inv = subst (λ (w : Operation). Agree (Beside (p + 1)) (act limit files l f) (does limit files w h))
      (at_place d s p l o e g) (agrees s d ok limit files p f h inv l e simple)

  pub plan_simulates : Simulates (rules limit files) (plan_rules limit files) s (decided d s) (Related s d ok limit files)
  plan_simulates = record {
    shapes = decided_shapes d 0 s;
    lines = decided_lines d 0 s;
    counts = λ p l o e g loop f t inv. counts p l o e g f t inv;
    compares = λ p l o e g branch f t inv. compare p l o e g f t inv;
    moves = passes;
    acts = acts;
  }

  pub related_some : (p : ℕ) (f : State) (t : Option Holding) → Beside p f t → IsSome t
  related_some p f None inv = absurd inv
  related_some p f (Some h) inv = refl

  pub related_first : Related s d ok limit files 0 start_state (Some start_holding)
  related_first = record {
    held = λ x. refl;
    numbers = refl;
    extensibles = refl;
    flight = λ a b x fl. let below : a < 0 = fl.before in absurd (omega arith);
  }
