-- A plan that meets the conditions goes beside its script: the invariant, by places.
use Rattle.std.specs.Prelude.{◌≡◌, ◌<◌, ◌≤◌, ◌+◌, ◌⊎◌, ◌&&◌, ◌∷◌, if◌then◌else◌}
use Rattle.cord_plan.proofs.Common.{ℕ, Bool, true, false, List, [], length, map, Option, Some, None, Ok, refl, sym, ap, ◌∙◌, subst, inl}
use Rattle.cord_plan.proofs.Common.{inr, ⊎_elim, arith, eq-or-lt_of_le, slice_get, not, bytes_eq, or_left, or_right, slice_get-map}
use Rattle.cord_plan.proofs.Common.{slice_get_within, bytes_eq-Decides, Statement, Put, Repeat, If, Else, End, Shape, Straight, NextOf}
use Rattle.cord_plan.proofs.Common.{Next, State, with_value, shape_of, IsControl, at_here, some_here, Expr, name, names, has, target_of}
use Rattle.cord_plan.proofs.Common.{is_this_name, assigns, assigns_at, reads_at, ReadBy, NotLive, is_block, is_block_at, preserves, text_in}
use Rattle.cord_plan.proofs.Common.{Held, Text, Long, Holding, held_length, gets, cords, Decisions, is_simple, is_simple_at, makes_cord}
use Rattle.cord_plan.proofs.Common.{assigns_other_at, stands, stands_by, IsInlined, MeetsConditions}
use Rattle.std.specs.Option.{option_map}
use Rattle.cord_plan.proofs.Evaluation.{In, value_same, cords_named}
use Rattle.cord_plan.proofs.BlockLines.{is_block_or_none, IsByBlock, next_by_block}
use Rattle.cord_plan.proofs.Named.{own_bytes, preserves_at}

-- the plan has the text, or its length where there is a reason why the text isn't needed
abbrev pub HeldAs : Type 0 → Held → List ℕ → Type 0
HeldAs U (Text t) v = t ≡ v
HeldAs U (Long n) v = (n ≡ length v) × U

length_as : (U : Type 0) (k : Held) (v : List ℕ) → HeldAs U k v → held_length k ≡ length v
length_as U (Text t) v e = ap length e
length_as U (Long n) v e = e.0

held_on : (U V : Type 0) (k : Held) (v : List ℕ) → (U → V) → HeldAs U k v → HeldAs V k v
held_on U V (Text t) v f e = e
held_on U V (Long n) v f e = (e.0, f e.1)

pub not_both : (b : Bool) → b ≡ true → b ≡ false → ⊥
not_both b t f = cc

none_or_some : (a : ℕ) (o : Option ℕ) → o ≡ None → o ≡ Some a → ⊥
none_or_some a o n e = cc

pub unset_same : {V : Type 0} (g : List ℕ → V) (z : List ℕ) (v : V) (y : List ℕ) → bytes_eq y z ≡ false → with_value g z v y ≡ g y
unset_same g z v y e = ap (λ (w : Bool). if w then v else g y) e

set_there : {V : Type 0} (g : List ℕ → V) (z : List ℕ) (v : V) (y : List ℕ) → bytes_eq y z ≡ true → with_value g z v y ≡ v
set_there g z v y e = ap (λ (w : Bool). if w then v else g y) e

-- a line that preserves these names assigns none of them
pub has_in : (xs : List (List ℕ)) (x : List ℕ) → In x xs → has xs x ≡ true
has_in [] x i = absurd i
has_in (y ∷ ys) x (inl e) = or_left (bytes_eq x y) (has ys x) (ap (λ (z : List ℕ). bytes_eq x z) (sym e) ∙ own_bytes x)
has_in (y ∷ ys) x (inr i) = or_right (bytes_eq x y) (has ys x) (has_in ys x i)

kept_name : (o : Option Statement) (xs : List (List ℕ)) → preserves o xs ≡ true → (y : List ℕ) → In y xs → assigns_at o y ≡ false
kept_name o xs e y i = preserves_at o xs y e (has_in xs y i)

simple_shape : (l : Statement) → is_simple l ≡ true → shape_of l ≡ Straight
simple_shape (Put line operand) e = refl
simple_shape l e = cc

block_unset : (l : Statement) (sh : Shape) → shape_of l ≡ sh → IsControl sh → (x : List ℕ) → assigns l x ≡ false
block_unset (Repeat line count) sh e k x = refl
block_unset (If line left relation right) sh e k x = refl
block_unset (Else line) sh e k x = refl
block_unset (End line) sh e k x = refl
block_unset l sh e k x = absurd (subst (λ (w : Shape). IsControl w) (sym e) k)

module _ (s : List Statement) (d : Decisions) (ok : MeetsConditions s d) (limit : ℕ) where
  abbrev shapes : List Shape
  shapes = map shape_of s

  -- no path that begins here reads x before it assigns it
  abbrev NotLiveFrom : List ℕ → ℕ → Type 0
  NotLiveFrom x p = (path : List ℕ) → ReadBy s x p path → ⊥

  -- the run is between the two lines of an inlined pair, and the second is not yet run
  pub record InFlight (p a b : ℕ) (x : List ℕ) : Type 0 where
    pub before : a < p
    pub until : p ≤ b
    pub from : d.source b x ≡ Some a

  -- why the plan may lack the text of x
  abbrev Spare : List ℕ → ℕ → Type 0
  Spare x p = NotLiveFrom x p ⊎ ((a : ℕ) × (b : ℕ) × InFlight p a b x)

  -- the plan has the texts of the names of an expression
  abbrev pub Ready : Expr → State → Holding → Type 0
  Ready e f h = (y : List ℕ) → In y (cords e) → h.held y ≡ Text (f.texts y)

  -- at place p: each name is held as a text, or as a length where the text is spare; the earlier expression of each pair under way can be
  -- built, and its value is the name's text
  pub record Inv (p : ℕ) (f : State) (h : Holding) : Type 0 where
    pub held : (x : List ℕ) → HeldAs (Spare x p) (h.held x) (f.texts x)
    pub numbers : h.numbers ≡ f.numbers
    pub extensibles : h.extensibles ≡ f.extensibles
    pub flight : (a b : ℕ) (x : List ℕ) → InFlight p a b x → Ready (d.exprs a) f h × (text_in limit f (d.exprs a) ≡ Ok (f.texts x))

  -- lengths are those of the script
  pub lengths : (p : ℕ) (f : State) (h : Holding) → Inv p f h → (x : List ℕ) → held_length (h.held x) ≡ length (f.texts x)
  lengths p f h inv x = length_as (Spare x p) (h.held x) (f.texts x) (inv.held x)

  -- ---- places
  shape_at : (p : ℕ) (o : Option Statement) → slice_get s p ≡ o → slice_get shapes p ≡ option_map shape_of o
  shape_at p o e = slice_get-map shape_of s p ∙ ap (λ (w : Option Statement). option_map shape_of w) e

  line_of_shape : (p : ℕ) (x : Shape) → slice_get shapes p ≡ Some x → (l : Statement) × (slice_get s p ≡ Some l) × (shape_of l ≡ x)
  line_of_shape p x e = pick (slice_get s p) refl
    where
      pick : (o : Option Statement) → slice_get s p ≡ o → (l : Statement) × (slice_get s p ≡ Some l) × (shape_of l ≡ x)
      pick None f = let same : None ≡ Some x = sym (shape_at p None f) ∙ e in let bad : ⊥ = cc in absurd bad
      pick (Some l) f = let same : Some (shape_of l) ≡ Some x = sym (shape_at p (Some l) f) ∙ e in let shape : shape_of l ≡ x =
          cc in (l, f, shape)

  simple_line : (p : ℕ) → is_simple_at (slice_get s p) ≡ true → (l : Statement) × (slice_get s p ≡ Some l) × (shape_of l ≡ Straight)
  simple_line p e = pick (slice_get s p) refl
    where
      pick : (o : Option Statement) → slice_get s p ≡ o → (l : Statement) × (slice_get s p ≡ Some l) × (shape_of l ≡ Straight)
      pick None f = let bad : ⊥ = cc in absurd bad
      pick (Some l) f = (l, f, simple_shape l (ap is_simple_at (sym f) ∙ e))

  -- a simple line is no block's
  simple_not_block : (m : ℕ) → is_simple_at (slice_get s m) ≡ true → is_block_or_none (slice_get shapes m) ≡ true → ⊥
  simple_not_block m e b =
      let w = simple_line m e in
      let open_here : is_block_or_none (slice_get shapes m) ≡ false = ap is_block_or_none (shape_at m (Some w.0) w.1) ∙ ap is_block w.2 in
      not_both (is_block_or_none (slice_get shapes m)) b open_here

  -- nor is one between the lines of a pair
  between_not_block : (a b m : ℕ) (x : List ℕ) → IsInlined s d a b x → a < m → m < b → is_block_or_none (slice_get shapes m) ≡ true → ⊥
  between_not_block a b m x fd low high bar =
      let last = simple_line b fd.second in
      let within : b < length s = slice_get_within s b last.0 last.1 in
      let here = some_here s m (omega arith) in
      let line : slice_get s m ≡ Some here.0 = at_here s m here.0 here.1 here.2 in
      let open_here : is_block_or_none (slice_get shapes m) ≡ false =
      ap is_block_or_none (shape_at m (Some here.0) line) ∙ ap is_block_at (sym line) ∙ fd.straight m low high in
      not_both (is_block_or_none (slice_get shapes m)) bar open_here

  -- a pair is not under way at a place that control enters otherwise than from the line before
  pub by_block_out : (q a b : ℕ) (x : List ℕ) → IsByBlock shapes q → InFlight q a b x → ⊥
  by_block_out q a b x (inl bar) fl =
      let fd : IsInlined s d a b x = ok.inlined a b x fl.from in
      ⊎_elim (λ (e : q ≡ b). simple_not_block q (subst (λ (n : ℕ). is_simple_at (slice_get s n) ≡ true) (sym e) fd.second) bar)
      (λ (lt : q < b). between_not_block a b q x fd fl.before lt bar) (eq-or-lt_of_le fl.until)
  by_block_out q a b x (inr w) fl =
      let fd : IsInlined s d a b x = ok.inlined a b x fl.from in
      let low : a ≤ w.0 = omega (arith, fl.before, w.1) in
      let high : w.0 < b = omega (arith, fl.until, w.1) in
      ⊎_elim (λ (e : a ≡ w.0). simple_not_block w.0 (subst (λ (n : ℕ). is_simple_at (slice_get s n) ≡ true) e fd.first) w.2)
      (λ (lt : a < w.0). between_not_block a b w.0 x fd lt high w.2) (eq-or-lt_of_le low)

  plain_next : (sh : Shape) (p q : ℕ) → is_block sh ≡ false → NextOf shapes p (Some sh) q → q ≡ p + 1
  plain_next Straight p q e n = n
  plain_next sh p q e n = let bad : ⊥ = cc in absurd bad

  next_plain : (p q : ℕ) → is_block_at (slice_get s p) ≡ false → Next shapes p q → q ≡ p + 1
  next_plain p q e n = pick (slice_get s p) refl
    where
      pick : (o : Option Statement) → slice_get s p ≡ o → q ≡ p + 1
      pick None f = absurd (subst (λ (o : Option Shape). NextOf shapes p o q) (shape_at p None f) n)
      pick (Some l) f = plain_next (shape_of l) p q (ap is_block_at (sym f) ∙ e)
          (subst (λ (o : Option Shape). NextOf shapes p o q) (shape_at p (Some l) f) n)

  -- ---- what stays spare
  goes_on : (x : List ℕ) (p q : ℕ) → assigns_at (slice_get s p) x ≡ false → Next shapes p q → NotLiveFrom x p → NotLiveFrom x q
  goes_on x p q unset n u path r = u (q ∷ path) (unset, n, r)

  flight_on : (x : List ℕ) (p q a b : ℕ) → assigns_at (slice_get s p) x ≡ false → Next shapes p q → InFlight p a b x → Spare x q
  flight_on x p q a b unset n fl =
      let fd : IsInlined s d a b x = ok.inlined a b x fl.from in
      ⊎_elim {C = Spare x q}
      (λ (e : p ≡ b). ⊎_elim {C = Spare x q}
      (λ (t : assigns_at (slice_get s b) x ≡ true).
      absurd (not_both (assigns_at (slice_get s b) x) t (subst (λ (m : ℕ). assigns_at (slice_get s m) x ≡ false) e unset)))
      (λ (u : NotLive s x b). inl (subst (λ (m : ℕ). NotLive s x m) (sym e) u q n)) fd.later)
      (λ (lt : p < b).
      let at : q ≡ p + 1 = next_plain p q (fd.straight p fl.before lt) n in
      inr (a, b, record { before = omega (arith, fl.before); until = omega arith; from = fl.from }))
      (eq-or-lt_of_le fl.until)

  spare_on : (x : List ℕ) (p q : ℕ) → assigns_at (slice_get s p) x ≡ false → Next shapes p q → Spare x p → Spare x q
  spare_on x p q unset n (inl u) = inl (goes_on x p q unset n u)
  spare_on x p q unset n (inr w) = flight_on x p q w.0 w.1 unset n w.2

  -- what control passes leaves the invariant
  pub moves : (p q : ℕ) (x : Shape) → slice_get shapes p ≡ Some x → IsControl x → Next shapes p q → (f : State) (h : Holding) → Inv p f h →
      Inv q f h
  moves p q x at k n f h inv =
      let line = line_of_shape p x at in
      let unset : (y : List ℕ) → assigns_at (slice_get s p) y ≡ false =
      λ y. ap (λ (o : Option Statement). assigns_at o y) line.1 ∙ block_unset line.0 x line.2 k y in
      record {
        held = λ y. held_on (Spare y p) (Spare y q) (h.held y) (f.texts y) (spare_on y p q (unset y) n) (inv.held y);
        numbers = inv.numbers;
        extensibles = inv.extensibles;
        flight = λ a b y fl. absurd (by_block_out q a b y (next_by_block shapes p q x at k n) fl);
      }

  -- ---- a line that gives a text to a name
  module _ (p : ℕ) (l : Statement) (here : slice_get s p ≡ Some l) (plain : shape_of l ≡ Straight) (f : State) (h : Holding)
      (inv : Inv p f h) where
    next_here : Next shapes p (p + 1)
    next_here = subst (λ (o : Option Shape). NextOf shapes p o (p + 1)) (sym (shape_at p (Some l) here ∙ ap (λ (x : Shape). Some x) plain))
        refl

    unset_line : (x : List ℕ) → assigns l x ≡ false → assigns_at (slice_get s p) x ≡ false
    unset_line x e = ap (λ (o : Option Statement). assigns_at o x) here ∙ e

    module _ (z : List ℕ) (target : target_of l ≡ Some z) (v : List ℕ) (k : Held) where
      abbrev f_set : State
      f_set = record f { texts = with_value f.texts z v }

      abbrev h_set : Holding
      h_set = gets h z k

      sets_at : (x : List ℕ) → assigns_at (slice_get s p) x ≡ bytes_eq x z
      sets_at x = ap (λ (o : Option Statement). assigns_at o x) here ∙ ap (λ (o : Option (List ℕ)). is_this_name o x) target

      unset_other : (y : List ℕ) → assigns_at (slice_get s p) y ≡ false → bytes_eq y z ≡ false
      unset_other y e = sym (sets_at y) ∙ e

      -- what is known of an expression of which the line assigns no name
      ready_kept : (e : Expr) → preserves (slice_get s p) (names e) ≡ true → Ready e f h → Ready e f_set h_set
      ready_kept e fixed r y i =
          let unset : bytes_eq y z ≡ false = unset_other y (kept_name (slice_get s p) (names e) fixed y (cords_named e y i)) in
          unset_same h.held z k y unset ∙ r y i ∙ ap Text (sym (unset_same f.texts z v y unset))

      value_kept : (e : Expr) → preserves (slice_get s p) (names e) ≡ true → text_in limit f_set e ≡ text_in limit f e
      value_kept e fixed = value_same limit f_set f e (λ y i. unset_same f.texts z v y
          (unset_other y (kept_name (slice_get s p) (names e) fixed y (cords_named e y i)))) (λ y i. refl)

      module _ (knows : is_simple_at (slice_get s p) ≡ true → Ready (d.exprs p) f h × (text_in limit f (d.exprs p) ≡ Ok v)) where
        begun : (b : ℕ) (x : List ℕ) → d.source b x ≡ Some p → Ready (d.exprs p) f_set h_set ×
            (text_in limit f_set (d.exprs p) ≡ Ok (f_set.texts x))
        begun b x from =
            let fd : IsInlined s d p b x = ok.inlined p b x from in
            let got = knows fd.first in
            let low : p ≤ p = omega arith in
            let fixed : preserves (slice_get s p) (names (d.exprs p)) ≡ true = fd.fixed p low fd.before in (
              ready_kept (d.exprs p) fixed got.0,
              value_kept (d.exprs p) fixed ∙ got.1
                  ∙ ap (λ (t : List ℕ). Ok t) (sym (set_there f.texts z v x (sym (sets_at x) ∙ fd.sets))),
            )

        pair_on : (a b : ℕ) (x : List ℕ) → InFlight (p + 1) a b x → (a ≡ p) ⊎ (a < p) → Ready (d.exprs a) f_set h_set ×
            (text_in limit f_set (d.exprs a) ≡ Ok (f_set.texts x))
        pair_on a b x fl (inl e) = subst (λ (m : ℕ). Ready (d.exprs m) f_set h_set ×
            (text_in limit f_set (d.exprs m) ≡ Ok (f_set.texts x))) (sym e) (begun b x (subst (λ (m : ℕ). d.source b x ≡ Some m) e fl.from))
        pair_on a b x fl (inr lt) =
            let fd : IsInlined s d a b x = ok.inlined a b x fl.from in
            let on : p < b = omega (arith, fl.until) in
            let low : a ≤ p = omega arith in
            let until : p ≤ b = omega arith in
            let old = inv.flight a b x (record { before = lt; until = until; from = fl.from }) in
            let fixed : preserves (slice_get s p) (names (d.exprs a)) ≡ true = fd.fixed p low on in (
              ready_kept (d.exprs a) fixed old.0,
              value_kept (d.exprs a) fixed ∙ old.1
                  ∙ ap (λ (t : List ℕ). Ok t) (sym (unset_same f.texts z v x (unset_other x (fd.unassigned p lt on)))),
            )

        abbrev Excused : Type 0
        Excused = NotLive s z p ⊎ ((b : ℕ) × (d.source b z ≡ Some p))

        excused_on : Excused → Spare z (p + 1)
        excused_on (inl u) = inl (u (p + 1) next_here)
        excused_on (inr w) =
            let ahead : p < w.0 = (ok.inlined p w.0 z w.1).before in
            inr (p, w.0, record { before = omega arith; until = omega arith; from = w.1 })

        held_set : HeldAs Excused k v → (x : List ℕ) (w : Bool) → bytes_eq x z ≡ w →
            HeldAs (Spare x (p + 1)) (if w then k else h.held x) (if w then v else f.texts x)
        held_set there x true e = held_on Excused (Spare x (p + 1)) k v
            (λ u. subst (λ (y : List ℕ). Spare y (p + 1)) (sym ((bytes_eq-Decides x z).0 e)) (excused_on u)) there
        held_set there x false e = held_on (Spare x p) (Spare x (p + 1)) (h.held x) (f.texts x)
            (spare_on x p (p + 1) (sets_at x ∙ e) next_here) (inv.held x)

        pub inv_set : HeldAs Excused k v → Inv (p + 1) f_set h_set
        inv_set there = record {
          held = λ x. held_set there x (bytes_eq x z) refl;
          numbers = inv.numbers;
          extensibles = inv.extensibles;
          flight = λ a b x fl.
              let low : a ≤ p = omega (arith, fl.before) in
              pair_on a b x fl (eq-or-lt_of_le low);
        }

    -- ---- a line that gives no text to a name
    module _ (u : State) (h_on : Holding) (texts : u.texts ≡ f.texts) (held : h_on.held ≡ h.held) (numbers : h_on.numbers ≡ u.numbers)
        (extensibles : h_on.extensibles ≡ u.extensibles)
        (others : (y : List ℕ) → assigns l y ≡ false → u.numbers y ≡ f.numbers y) (no_cord : makes_cord l ≡ false)
        (bare : (x : List ℕ) → is_simple l ≡ true → assigns l x ≡ true → ⊥) where
      -- what is assigned otherwise than as a cord is read by no line
      no_reader : (x : List ℕ) → assigns l x ≡ true → (q : ℕ) → reads_at (slice_get s q) x ≡ false
      no_reader x e q = ok.kinds p q x (ap (λ (o : Option Statement). assigns_other_at o x) here ∙ (λ i. not (no_cord i) && e i))

      not_live_all : (x : List ℕ) → ((q : ℕ) → reads_at (slice_get s q) x ≡ false) → (q : ℕ) → NotLiveFrom x q
      not_live_all x g q [] r = not_both (reads_at (slice_get s q) x) r (g q)
      not_live_all x g q (m ∷ path) r = not_live_all x g m path r.2

      spare_after : (x : List ℕ) (w : Bool) → assigns l x ≡ w → Spare x p → Spare x (p + 1)
      spare_after x true e sp = inl (not_live_all x (no_reader x e) (p + 1))
      spare_after x false e sp = spare_on x p (p + 1) (unset_line x e) next_here sp

      on_pair : (a b : ℕ) (x : List ℕ) → InFlight (p + 1) a b x → (a ≡ p) ⊎ (a < p) → Ready (d.exprs a) u h_on ×
          (text_in limit u (d.exprs a) ≡ Ok (u.texts x))
      on_pair a b x fl (inl e) =
          let fd : IsInlined s d p b x = ok.inlined p b x (subst (λ (m : ℕ). d.source b x ≡ Some m) e fl.from) in
          absurd (bare x (ap is_simple_at (sym here) ∙ fd.first) (ap (λ (o : Option Statement). assigns_at o x) (sym here) ∙ fd.sets))
      on_pair a b x fl (inr lt) =
          let fd : IsInlined s d a b x = ok.inlined a b x fl.from in
          let on : p < b = omega (arith, fl.until) in
          let low : a ≤ p = omega arith in
          let until : p ≤ b = omega arith in
          let old = inv.flight a b x (record { before = lt; until = until; from = fl.from }) in
          let fixed : preserves (slice_get s p) (names (d.exprs a)) ≡ true = fd.fixed p low on in
          let unset : (y : List ℕ) → In y (names (d.exprs a)) → assigns l y ≡ false =
          λ y i. ap (λ (o : Option Statement). assigns_at o y) (sym here) ∙ kept_name (slice_get s p) (names (d.exprs a)) fixed y i in (
            (λ y i. (λ r. held r y) ∙ old.0 y i ∙ (λ r. Text (sym texts r y))),
            value_same limit u f (d.exprs a) (λ y i. λ r. texts r y) (λ y i. others y (unset y i)) ∙ old.1 ∙ (λ r. Ok (sym texts r x)),
          )

      pub inv_on : Inv (p + 1) u h_on
      inv_on = record {
        held = λ x. subst (λ (w : List ℕ → Held). HeldAs (Spare x (p + 1)) (w x) (u.texts x)) (sym held)
            (subst (λ (w : List ℕ → List ℕ). HeldAs (Spare x (p + 1)) (h.held x) (w x)) (sym texts)
            (held_on (Spare x p) (Spare x (p + 1)) (h.held x) (f.texts x) (spare_after x (assigns l x) refl) (inv.held x)));
        numbers = numbers;
        extensibles = extensibles;
        flight = λ a b x fl.
            let low : a ≤ p = omega (arith, fl.before) in
            on_pair a b x fl (eq-or-lt_of_le low);
      }

  -- ---- what a line reads
  module _ (p : ℕ) (f : State) (h : Holding) (inv : Inv p f h) where
    -- what is read here and doesn't stand as an expression is there as a text
    text_there : (x : List ℕ) → reads_at (slice_get s p) x ≡ true → d.source p x ≡ None → (k : Held) → h.held x ≡ k →
        HeldAs (Spare x p) k (f.texts x) → h.held x ≡ Text (f.texts x)
    text_there x r none (Text t) e ea = e ∙ ap Text ea
    text_there x r none (Long n) e (l, inl u) = absurd (u [] r)
    text_there x r none (Long n) e (l, inr w) =
        let fl : InFlight p w.0 w.1 x = w.2 in
        let fd : IsInlined s d w.0 w.1 x = ok.inlined w.0 w.1 x fl.from in
        absurd (⊎_elim (λ (q : p ≡ w.1). none_or_some w.0 (d.source p x) none (subst (λ (c : ℕ). d.source c x ≡ Some w.0) (sym q) fl.from))
        (λ (lt : p < w.1). not_both (reads_at (slice_get s p) x) r (fd.not_live p fl.before lt)) (eq-or-lt_of_le fl.until))

    -- what stands for an operand can be built, and its value is the operand's text
    pub operand : (x : List ℕ) → reads_at (slice_get s p) x ≡ true → Ready (stands d p x) f h ×
        (text_in limit f (stands d p x) ≡ Ok (f.texts x))
    operand x r = pick (d.source p x) refl
      where
        pick : (o : Option ℕ) → d.source p x ≡ o → Ready (stands_by d.exprs o x) f h ×
            (text_in limit f (stands_by d.exprs o x) ≡ Ok (f.texts x))
        pick None e = ((λ y i. named y i), refl)
          where
            named : (y : List ℕ) → In y (cords (name x)) → h.held y ≡ Text (f.texts y)
            named y (inl same) = subst (λ (w : List ℕ). h.held w ≡ Text (f.texts w)) (sym same)
                (text_there x r e (h.held x) refl (inv.held x))
            named y (inr i) = absurd i
        pick (Some a) e =
            let low : p ≤ p = omega arith in
            inv.flight a p x (record { before = (ok.inlined a p x e).before; until = low; from = e })

    -- in a line that isn't simple each operand is there as a text
    pub operand_text : is_simple_at (slice_get s p) ≡ false → (x : List ℕ) → reads_at (slice_get s p) x ≡ true → h.held x ≡ Text (f.texts x)
    operand_text bare x r = text_there x r (pick (d.source p x) refl) (h.held x) refl (inv.held x)
      where
        pick : (o : Option ℕ) → d.source p x ≡ o → d.source p x ≡ None
        pick None e = e
        pick (Some a) e = absurd (not_both (is_simple_at (slice_get s p)) (ok.inlined a p x e).second bare)
