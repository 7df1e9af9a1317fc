-- What holds of each state of a simulated run.
use Rattle.std.specs.Prelude.{◌≡◌, ◌+◌, ◌∷◌, if◌then◌else◌}
use Rattle.cord_plan.proofs.Common.{ℕ, zero, suc, ℤ, pos, negsuc, Bool, true, false, List, [], map, Option, Some, None, Result, Ok, Err}
use Rattle.cord_plan.proofs.Common.{refl, sym, ap, ◌∙◌, subst, slice_get, nat_lt, slice_get-map, FaultKind, TooManyTurns, Shape, Straight}
use Rattle.cord_plan.proofs.Common.{Loop, Branch, Otherwise, Close, IsNested, Next, Agree, IsControl, Simulates}
use Rattle.std.specs.Option.{option_map}
use Rattle.cord_meaning.specs.declared.ends.End.{End}
use Rattle.cord_meaning.specs.Machine.{Rules, Block, Turns, Chosen, Config, notes, faults, acted, turned, begins, repeats, chooses, closes}
use Rattle.cord_meaning.specs.Machine.{if_running, jump_from, runs_shape, runs, step, after}
use Rattle.cord_meaning.proofs.Follows.{follows}

module _ {T : Type 0} (most : ℕ) (c : Config T) where
  begins_state : (place line left : ℕ) (bs : List Block) → (begins most c place line left bs).state ≡ c.state
  begins_state place line left bs = pick (nat_lt c.turns most)
    where
      pick : (v : Bool) → (if v then turned c place line left bs else faults c line TooManyTurns).state ≡ c.state
      pick true = refl
      pick false = refl

  chooses_state : (line other : ℕ) (v : Bool) → (chooses c line other v).state ≡ c.state
  chooses_state line other true = refl
  chooses_state line other false = refl

  closes_state : (bs : List Block) → (closes most c bs).state ≡ c.state
  closes_state [] = refl
  closes_state (Chosen ∷ bs) = refl
  closes_state (Turns place line zero ∷ bs) = refl
  closes_state (Turns place line (suc n) ∷ bs) = begins_state place line n bs

repeats_state : {T : Type 0} (most : ℕ) (c : Config T) (line suffix : ℕ) (z : ℤ) → (repeats most c line suffix z).state ≡ c.state
repeats_state most c line suffix (negsuc n) = refl
repeats_state most c line suffix (pos zero) = refl
repeats_state most c line suffix (pos (suc n)) = begins_state most (notes c line []) c.place line n c.blocks

ended_not : (e : End) → Some e ≡ None → ⊥
ended_not e h = cc

nothing_there : {A : Type 0} (x : A) → None ≡ Some x → ⊥
nothing_there x e = cc

module _ {M T : Type 0} (rules : Rules M T) (most : ℕ) (ops : List M) where
  -- `repeat`, `if`, `else` and `end` leave the state as it is
  control_state : (c : Config T) (m : M) (x : Shape) → IsControl x → (runs_shape rules most ops c m x).state ≡ c.state
  control_state c m Straight k = absurd k
  control_state c m Loop k = repeats_state most c (rules.line m) (jump_from rules most ops c.place) (rules.count m c.state)
  control_state c m Branch k = chooses_state most c (rules.line m) (jump_from rules most ops c.place) (rules.holds m c.state)
  control_state c m Otherwise k = refl
  control_state c m Close k = closes_state most c c.blocks

  abbrev shapes : List Shape
  shapes = map rules.shape ops

  -- J holds of place and state at each step, and so P of the state
  module _ (nested : IsNested [] shapes) (J : ℕ → T → Type 0) (P : T → Type 0) (reports : (p : ℕ) (t : T) → J p t → P t)
      (moves : (p q : ℕ) (x : Shape) → slice_get shapes p ≡ Some x → IsControl x → Next shapes p q → (t : T) → J p t → J q t)
      (acts : (p : ℕ) (m : M) → slice_get ops p ≡ Some m → rules.shape m ≡ Straight → (t : T) → J p t → (r : T × List ℕ) → rules.act p m t
      ≡ Ok r → J (p + 1) r.0) where
    -- what a step from p makes
    record Made (p : ℕ) (c : Config T) : Type 0 where
      state : P c.state
      on : c.ended ≡ None → Next shapes p c.place → J c.place c.state

    module _ (c : Config T) (here : J c.place c.state) where
      simple_made : (line : ℕ) (r : Result (T × List ℕ) FaultKind) → ((u : T × List ℕ) → r ≡ Ok u → J (c.place + 1) u.0) →
          Made c.place (acted c line r)
      simple_made line (Ok u) g = record { state = reports (c.place + 1) u.0 (g u refl); on = λ running next. g u refl }
      simple_made line (Err kind) g = record { state = reports c.place c.state here; on = λ running next. absurd (ended_not _ running) }

      control_made : (m : M) (x : Shape) → slice_get shapes c.place ≡ Some x → IsControl x → Made c.place (runs_shape rules most ops c m x)
      control_made m x at k =
          let d : Config T = runs_shape rules most ops c m x in
          let same : c.state ≡ d.state = sym (control_state c m x k) in
          record {
            state = subst (λ (t : T). P t) same (reports c.place c.state here);
            on = λ running next. subst (λ (t : T). J d.place t) same (moves c.place d.place x at k next c.state here);
          }

      shape_made : (m : M) → slice_get ops c.place ≡ Some m → (x : Shape) → rules.shape m ≡ x → slice_get shapes c.place ≡ Some x →
          Made c.place (runs_shape rules most ops c m x)
      shape_made m e Straight is at = simple_made (rules.line m) (rules.act c.place m c.state) (λ u f. acts c.place m e is c.state here u f)
      shape_made m e Loop is at = control_made m Loop at tt
      shape_made m e Branch is at = control_made m Branch at tt
      shape_made m e Otherwise is at = control_made m Otherwise at tt
      shape_made m e Close is at = control_made m Close at tt

      runs_made : (o : Option M) → slice_get ops c.place ≡ o → Made c.place (runs rules most ops c o)
      runs_made None e = record { state = reports c.place c.state here; on = λ running next. absurd (ended_not _ running) }
      runs_made (Some m) e = shape_made m e (rules.shape m) refl
          (slice_get-map rules.shape ops c.place ∙ ap (λ (o : Option M). option_map rules.shape o) e)

    module _ (a : T) (first : J 0 a) where
      record Stays (c : Config T) : Type 0 where
        state : P c.state
        on : c.ended ≡ None → J c.place c.state

      one_step : (k : ℕ) (o : Option End) → (after rules most ops k a).ended ≡ o → Stays (after rules most ops k a) →
          Stays (after rules most ops (suc k) a)
      one_step k None e h =
          let c : Config T = after rules most ops k a in
          let stepped : runs rules most ops c (slice_get ops c.place) ≡ step rules most ops c =
          ap (λ (o : Option End). if_running o c (runs rules most ops c (slice_get ops c.place))) (sym e) in
          let made : Made c.place (step rules most ops c) =
          subst (λ (d : Config T). Made c.place d) stepped (runs_made c (h.on e) (slice_get ops c.place) refl) in
          record { state = made.state; on = λ running. made.on running (follows rules most ops nested a k running) }
      one_step k (Some x) e h =
          let c : Config T = after rules most ops k a in
          let stays : c ≡ step rules most ops c =
          ap (λ (o : Option End). if_running o c (runs rules most ops c (slice_get ops c.place))) (sym e) in
          subst (λ (d : Config T). Stays d) stays h

      along : (k : ℕ) → Stays (after rules most ops k a)
      along zero = record { state = reports 0 a first; on = λ running. first }
      along (suc k) = one_step k (after rules most ops k a).ended refl (along k)

      pub each_state : (k : ℕ) → P (after rules most ops k a).state
      each_state k = (along k).state

-- of each state of a run that is simulated, what is reported by a state that it is related to
module _ {L M S T : Type 0} (rules : Rules L S) (others : Rules M T) (most : ℕ) (statements : List L) (operations : List M)
    (Related : ℕ → S → T → Type 0) (sim : Simulates rules others statements operations Related) (P : T → Type 0)
    (reports : (p : ℕ) (s : S) (t : T) → Related p s t → P t) where
  abbrev Beside : ℕ → T → Type 0
  Beside p t = (s : S) × Related p s t

  beside_next : (p : ℕ) (r : Result (S × List ℕ) FaultKind) (u : T × List ℕ) → Agree (Related p) r (Ok u) → Beside p u.0
  beside_next p (Ok r) u g = (r.0, g.1)
  beside_next p (Err kind) u g = absurd g

  statement_at : (p : ℕ) (m : M) → slice_get operations p ≡ Some m → (o : Option L) → slice_get statements p ≡ o → (l : L) ×
      (slice_get statements p ≡ Some l) × (rules.shape l ≡ others.shape m)
  statement_at p m f o e = pick o e same
    where
      same : option_map rules.shape o ≡ Some (others.shape m)
      same = ap (λ (w : Option L). option_map rules.shape w) (sym e) ∙ sym (slice_get-map rules.shape statements p)
          ∙ ap (λ (xs : List Shape). slice_get xs p) sim.shapes ∙ slice_get-map others.shape operations p
          ∙ ap (λ (w : Option M). option_map others.shape w) f

      pick : (o : Option L) → slice_get statements p ≡ o → option_map rules.shape o ≡ Some (others.shape m) → (l : L) ×
          (slice_get statements p ≡ Some l) × (rules.shape l ≡ others.shape m)
      pick None e h = absurd (nothing_there _ h)
      pick (Some l) e h = let shape : rules.shape l ≡ others.shape m = cc in (l, e, shape)

  acts_beside : (p : ℕ) (m : M) → slice_get operations p ≡ Some m → others.shape m ≡ Straight → (t : T) → Beside p t → (r : T × List ℕ) →
      others.act p m t ≡ Ok r → Beside (p + 1) r.0
  acts_beside p m f simple t b r e =
      let w = statement_at p m f (slice_get statements p) refl in
      beside_next (p + 1) (rules.act p w.0 b.0) r
      (subst (λ (u : Result (T × List ℕ) FaultKind). Agree (Related (p + 1)) (rules.act p w.0 b.0) u) e
      (sim.acts p w.0 m w.1 f (w.2 ∙ simple) b.0 t b.1))

  moves_beside : (p q : ℕ) (x : Shape) → slice_get (map others.shape operations) p ≡ Some x → IsControl x →
      Next (map others.shape operations) p q → (t : T) → Beside p t → Beside q t
  moves_beside p q x at control next t b = (
    b.0,
    sim.moves p q x (ap (λ (xs : List Shape). slice_get xs p) sim.shapes ∙ at) control
        (subst (λ (xs : List Shape). Next xs p q) (sym sim.shapes) next) b.0 t b.1,
  )

  pub each_related : IsNested [] (map rules.shape statements) → (a : S) (b : T) → Related 0 a b → (k : ℕ) →
      P (after others most operations k b).state
  each_related nested a b first k =
      each_state others most operations (subst (λ (xs : List Shape). IsNested [] xs) sim.shapes nested) Beside P
      (λ p t w. reports p w.0 t w.1) moves_beside acts_beside b (a, first) k
