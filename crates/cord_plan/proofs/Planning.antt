-- What the plan of a script decides meets the conditions.
use Rattle.std.specs.Prelude.{◌≡◌, ◌⊎◌, ◌+◌, ◌<◌, ◌∷◌, ◌==◌, if◌then◌else◌}
use Rattle.cord_plan.proofs.Common.{ℕ, zero, suc, Bool, true, false, List, [], map, length, Option, Some, None, refl, sym, ap, ◌∙◌, subst}
use Rattle.cord_plan.proofs.Common.{inl, inr, ⊎_elim, arith, eqb-true, slice_get_within, bytes_eq-Decides, slice_get, bytes_eq, Statement}
use Rattle.cord_plan.proofs.Common.{Chars, Nul, Cat, Catn, Catc, Substr, Put, at_here, some_here, Expr, name, names, count, read_by}
use Rattle.cord_plan.proofs.Common.{target_of, is_this_name, assigns, assigns_at, NotLive, IsLater, ChoiceTable, Choice, named, replaced}
use Rattle.cord_plan.proofs.Common.{expr_of, expr_with, first_of, defining, setter, preserves, choices, operands_chosen, exprs, or_nothing}
use Rattle.cord_plan.proofs.Common.{operation, operations, is_dead, is_first, some_from, planned, Decisions, decided, decided_from}
use Rattle.cord_plan.proofs.Common.{is_simple, is_simple_at, HasKinds, stands, stands_by, IsInlined, MeetsConditions, or_cases, not-true}
use Rattle.cord_plan.proofs.Chosen.{AreChosen, Chosen, EntryOf, IsSetter, LineEntry, Taken, are_chosen, entry_of, line_entry, line_there}
use Rattle.cord_plan.proofs.Chosen.{SimpleEntry, choices_at, simple_entry, table_long}
use Rattle.cord_plan.proofs.Named.{one_place}
use Rattle.cord_plan.proofs.Pairs.{Facts, taken_at, taken_facts}

simple_defining : (l : Statement) (e : Expr) → defining l ≡ Some e → is_simple l ≡ true
simple_defining (Put line operand) e h = refl
simple_defining l e h = cc

-- what a simple line makes of expressions of its operands
expr_there : (g : List ℕ → Expr) (l : Statement) → is_simple l ≡ true → (e : Expr) × (expr_with l (map g (read_by l)) ≡ Some e)
expr_there g (Chars line target byte count) h = (_, refl)
expr_there g (Nul line target count) h = (_, refl)
expr_there g (Cat line target left right) h = (_, refl)
expr_there g (Catn line target parts) h = (_, refl)
expr_there g (Catc line target operand byte) h = (_, refl)
expr_there g (Substr line target operand start count) h = (_, refl)
expr_there g (Put line operand) h = (_, refl)
expr_there g l h = let bad : ⊥ = cc in absurd bad

pub defining_simple : (l : Statement) → is_simple l ≡ true → (e : Expr) × (defining l ≡ Some e)
defining_simple l h = expr_there (λ x. name x) l h

-- a line that assigns both assigns one name
one_target : (o : Option Statement) (x y : List ℕ) → assigns_at o x ≡ true → assigns_at o y ≡ true → x ≡ y
one_target None x y e f = let bad : ⊥ = cc in absurd bad
one_target (Some l) x y e f = pick (target_of l) refl
  where
    pick : (t : Option (List ℕ)) → target_of l ≡ t → x ≡ y
    pick None h = let bad : false ≡ true = ap (λ (w : Option (List ℕ)). is_this_name w x) (sym h) ∙ e in let no_one : ⊥ = cc in absurd no_one
    pick (Some z) h =
        let one : bytes_eq x z ≡ true = ap (λ (w : Option (List ℕ)). is_this_name w x) (sym h) ∙ e in
        let two : bytes_eq y z ≡ true = ap (λ (w : Option (List ℕ)). is_this_name w y) (sym h) ∙ f in
        (bytes_eq-Decides x z).0 one ∙ sym ((bytes_eq-Decides y z).0 two)

-- ---- the source of a name among choices
abbrev source_in : List (List ℕ) → List Choice → List ℕ → Option ℕ
source_in [] cs x = None
source_in (y ∷ ys) [] x = None
source_in (y ∷ ys) (named z ∷ cs) x = source_in ys cs x
source_in (y ∷ ys) (replaced a r ∷ cs) x = if bytes_eq x y then Some a else source_in ys cs x

no_choices : (xs : List (List ℕ)) (x : List ℕ) → source_in xs [] x ≡ None
no_choices [] x = refl
no_choices (y ∷ xs) x = refl

-- a place where a choice takes the expression of the line at a for x
record Found (xs : List (List ℕ)) (cs : List Choice) (x : List ℕ) (a : ℕ) : Type 0 where
  place : ℕ
  expression : Expr
  operand : slice_get xs place ≡ Some x
  choice : slice_get cs place ≡ Some (replaced a expression)

further : (y : List ℕ) (c : Choice) (xs : List (List ℕ)) (cs : List Choice) (x : List ℕ) (a : ℕ) → Found xs cs x a →
    Found (y ∷ xs) (c ∷ cs) x a
further y c xs cs x a f = record { place = suc f.place; expression = f.expression; operand = f.operand; choice = f.choice }

found : (xs : List (List ℕ)) (cs : List Choice) (x : List ℕ) (a : ℕ) → source_in xs cs x ≡ Some a → Found xs cs x a
found (y ∷ xs) (named z ∷ cs) x a e = further y (named z) xs cs x a (found xs cs x a e)
found (y ∷ xs) (replaced b r ∷ cs) x a e = pick (λ h. found xs cs x a h) (bytes_eq x y) refl e
  where
    pick : (source_in xs cs x ≡ Some a → Found xs cs x a) → (v : Bool) → bytes_eq x y ≡ v →
        (if v then Some b else source_in xs cs x) ≡ Some a → Found (y ∷ xs) (replaced b r ∷ cs) x a
    pick rest true f h =
        let same : b ≡ a = cc in
        record {
          place = 0;
          expression = r;
          operand = ap (λ (w : List ℕ). Some w) (sym ((bytes_eq-Decides x y).0 f));
          choice = ap (λ (n : ℕ). Some (replaced n r)) same;
        }
    pick rest false f h = further y (replaced b r) xs cs x a (rest h)
found _ _ x a e = let bad : ⊥ = cc in absurd bad

-- where a choice takes an expression for x, x has a source
has_source : (xs : List (List ℕ)) (cs : List Choice) (x : List ℕ) (i a : ℕ) (r : Expr) → slice_get xs i ≡ Some x →
    slice_get cs i ≡ Some (replaced a r) → source_in xs cs x ≡ None → ⊥
has_source (y ∷ xs) (named z ∷ cs) x (suc i) a r e f none = has_source xs cs x i a r e f none
has_source (y ∷ xs) (replaced b q ∷ cs) x zero a r e f none =
    let same : y ≡ x = cc in
    let gone : Some b ≡ None = sym (ap (λ (v : Bool). if v then Some b else source_in xs cs x) ((bytes_eq-Decides x y).1 (sym same))) ∙ none in
    cc
has_source (y ∷ xs) (replaced b q ∷ cs) x (suc i) a r e f none = pick (λ n. has_source xs cs x i a r e f n) (bytes_eq x y) none
  where
    pick : (source_in xs cs x ≡ None → ⊥) → (v : Bool) → (if v then Some b else source_in xs cs x) ≡ None → ⊥
    pick rest true n = let bad : ⊥ = cc in bad
    pick rest false n = rest n
has_source _ _ x i a r e f none = let bad : ⊥ = cc in bad

some_reported : (p : ℕ) (cs : List Choice) → some_from p cs ≡ true → (i : ℕ) × (r : Expr) × (slice_get cs i ≡ Some (replaced p r))
some_reported p [] e = let bad : ⊥ = cc in absurd bad
some_reported p (named x ∷ cs) e = let w = some_reported p cs e in (suc w.0, w.1, w.2)
some_reported p (replaced a r ∷ cs) e = elim (or_cases (a == p) (some_from p cs) e) [
  | inl h ↦ (0, r, ap (λ (n : ℕ). Some (replaced n r)) (eqb-true a p h))
  | inr h ↦ let w = some_reported p cs h in (suc w.0, w.1, w.2)
]

first_reported : (p : ℕ) (table : ChoiceTable) → is_first p table ≡ true → (b : ℕ) × (en : Option Expr × List Choice) ×
    (slice_get table b ≡ Some en) × (some_from p en.1 ≡ true)
first_reported p [] e = let bad : ⊥ = cc in absurd bad
first_reported p (en ∷ table) e = elim (or_cases (some_from p en.1) (is_first p table) e) [
  | inl h ↦ (0, en, refl, h)
  | inr h ↦ let w = first_reported p table h in (suc w.0, w.1, w.2, w.3)
]

module _ (s : List Statement) (later : List ℕ → ℕ → Bool) where
  -- each choice has its operand
  operand_of : (table : ChoiceTable) (b : ℕ) (l : Statement) (xs : List (List ℕ)) (cs : List Choice) (i : ℕ) (c : Choice) → AreChosen s later table b l xs cs → slice_get cs i ≡ Some c → (x : List ℕ) ×
      (slice_get xs i ≡ Some x)
  operand_of table b l [] [] i c h e = let bad : ⊥ = cc in absurd bad
  operand_of table b l (y ∷ xs) (d ∷ cs) zero c h e = (y, refl)
  operand_of table b l (y ∷ xs) (d ∷ cs) (suc i) c h e = operand_of table b l xs cs i c h.1 e
  operand_of table b l _ _ i c h e = absurd h

  -- ---- the table of a script
  abbrev whole_table : ChoiceTable
  whole_table = exprs s later

  -- ---- what the plan decides
  abbrev read_at : Option Statement → List (List ℕ)
  read_at None = []
  read_at (Some l) = read_by l

  abbrev pub target_at : Option Statement → Option (List ℕ)
  target_at None = None
  target_at (Some l) = target_of l

  abbrev pub decisions : Decisions
  decisions = record {
    exprs = λ p. or_nothing (first_of (slice_get whole_table p));
    dead = λ p. is_dead later p (target_at (slice_get s p));
    paired = λ p. is_first p whole_table;
    source = λ b x. source_in (read_at (slice_get s b)) (choices_at (slice_get whole_table b)) x;
  }

  -- the operations are those of the decisions
  operations_decided : (p : ℕ) (rest : List Statement) (entries : ChoiceTable) → length entries ≡ length rest →
      ((k : ℕ) → slice_get s (p + k) ≡ slice_get rest k) → ((k : ℕ) → slice_get whole_table (p + k) ≡ slice_get entries k) →
      operations later whole_table p rest entries ≡ decided_from decisions p rest
  operations_decided p [] entries long line here = refl
  operations_decided p (l ∷ rest) [] long line here = let bad : ⊥ = cc in absurd bad
  operations_decided p (l ∷ rest) (en ∷ entries) long line here =
      let place : p ≡ p + 0 = omega arith in
      let line_is : slice_get s p ≡ Some l = ap (λ (n : ℕ). slice_get s n) place ∙ line 0 in
      let entry_is : slice_get whole_table p ≡ Some en = ap (λ (n : ℕ). slice_get whole_table n) place ∙ here 0 in
      let fewer : length entries ≡ length rest = omega (arith, long) in
      λ i. operation l (or_nothing (first_of (sym entry_is i))) (is_dead later p (target_at (sym line_is i))) (is_first p whole_table)
      ∷ operations_decided (p + 1) rest entries fewer (λ k. (let more : p + 1 + k ≡ p + suc k = omega arith in
      ap (λ (n : ℕ). slice_get s n) more ∙ line (suc k))) (λ k. (let more : p + 1 + k ≡ p + suc k = omega arith in
      ap (λ (n : ℕ). slice_get whole_table n) more ∙ here (suc k))) i

  pub planned_decided : planned s later ≡ decided decisions s
  planned_decided =
      operations_decided 0 s whole_table (table_long s later) (λ k. (let same : 0 + k ≡ k = omega arith in ap (λ (n : ℕ). slice_get s n) same))
      (λ k. (let same : 0 + k ≡ k = omega arith in ap (λ (n : ℕ). slice_get whole_table n) same))

  -- ---- a line with an expression
  module _ (b : ℕ) (l : Statement) (here : slice_get s b ≡ Some l) where
    at : LineEntry s later b l
    at = line_entry s later b l here

    abbrev chosen_here : List Choice
    chosen_here = choices s later at.table b l [] (read_by l)

    picked_here : AreChosen s later at.table b l (read_by l) chosen_here
    picked_here = are_chosen s later at.table b l [] [] (read_by l) tt

    module _ (e : Expr) (defining_is : defining l ≡ Some e) where
      entry_chosen : slice_get whole_table b ≡ Some (expr_with l (map (λ c. expr_of c) chosen_here), chosen_here)
      entry_chosen = at.is ∙ ap (λ (o : Option Expr). Some (operands_chosen s later at.table b l o)) defining_is

      -- an expression that was taken is that of its line
      taken_is : (x : List ℕ) (a : ℕ) (r : Expr) → Taken s later at.table b l x a r → decisions.exprs a ≡ r
      taken_is x a r h = ap (λ (o : Option (Option Expr × List Choice)). or_nothing (first_of o))
          (at.prefix a (Some r, (entry_of at.table a r h.from).choices) (entry_of at.table a r h.from).at)

      source_is : (x : List ℕ) → decisions.source b x ≡ source_in (read_by l) chosen_here x
      source_is x = λ i. source_in (read_at (here i)) (choices_at (entry_chosen i)) x

      -- what stands for the operand at a place is its choice's expression
      stands_here : (i : ℕ) (x : List ℕ) (c : Choice) → slice_get (read_by l) i ≡ Some x → slice_get chosen_here i ≡ Some c →
          Chosen s later at.table b l x c → (o : Option ℕ) → source_in (read_by l) chosen_here x ≡ o → stands_by decisions.exprs o x ≡ expr_of c
      stands_here i x (named y) operand choice h None source = ap (λ (w : List ℕ). name w) (sym h)
      stands_here i x (replaced a r) operand choice h None source =
          absurd (has_source (read_by l) chosen_here x i a r operand choice source)
      stands_here i x c operand choice h (Some a) source =
          let f : Found (read_by l) chosen_here x a = found (read_by l) chosen_here x a source in
          let p : Taken s later at.table b l x a f.expression =
          taken_at s later at.table b l (read_by l) chosen_here f.place x a f.expression picked_here f.operand f.choice in
          let once : count x (read_by l) ≡ 1 = (taken_facts s later at.table b l x a f.expression p).once in
          let place : i ≡ f.place = one_place x (read_by l) i f.place once operand f.operand in
          let same : Some c ≡ Some (replaced a f.expression) = sym choice ∙ ap (λ (n : ℕ). slice_get chosen_here n) place ∙ f.choice in
          let is : c ≡ replaced a f.expression = cc in
          taken_is x a f.expression p ∙ ap expr_of (sym is)

      all_stand : (xs : List (List ℕ)) (cs : List Choice) → AreChosen s later at.table b l xs cs →
          ((i : ℕ) (x : List ℕ) (c : Choice) → slice_get xs i ≡ Some x → slice_get cs i ≡ Some c → Chosen s later at.table b l x c →
          stands decisions b x ≡ expr_of c) → map (λ x. stands decisions b x) xs ≡ map (λ c. expr_of c) cs
      all_stand [] [] h each = refl
      all_stand (x ∷ xs) (c ∷ cs) h each = λ i. each 0 x c refl refl h.0 i ∷ all_stand xs cs h.1 (λ k y d e f g. each (suc k) y d e f g) i
      all_stand _ _ h each = absurd h

      defining_stands : expr_with l (map (λ x. stands decisions b x) (read_by l)) ≡ expr_with l (map (λ c. expr_of c) chosen_here)
      defining_stands = ap (λ (es : List Expr). expr_with l es) (all_stand (read_by l) chosen_here picked_here
          (λ i x c operand choice h. stands_here i x c operand choice h (decisions.source b x) (sym (source_is x))))

  module _ (reported : IsLater s later) where
    module _ (b : ℕ) (l : Statement) (here : slice_get s b ≡ Some l) (e : Expr) (defining_is : defining l ≡ Some e) where
      inlined_here : (a : ℕ) (x : List ℕ) → decisions.source b x ≡ Some a → IsInlined s decisions a b x
      inlined_here a x from =
          let f : Found (read_by l) (chosen_here b l here) x a =
          found (read_by l) (chosen_here b l here) x a (sym (source_is b l here e defining_is x) ∙ from) in
          let p : Taken s later (at b l here).table b l x a f.expression =
          taken_at s later (at b l here).table b l (read_by l) (chosen_here b l here) f.place x a f.expression (picked_here b l here)
          f.operand f.choice in
          let last : IsSetter s x b a = p.set in
          let fit : Facts s later f.expression a b l x = taken_facts s later (at b l here).table b l x a f.expression p in
          let line = line_there (slice_get s a) x last.assigns in
          let taken : EntryOf (at b l here).table a f.expression = entry_of (at b l here).table a f.expression p.from in
          let whole : SimpleEntry s later a line.0 f.expression taken.choices = simple_entry s later a line.0 f.expression taken.choices
          line.1 ((at b l here).prefix a (Some f.expression, taken.choices) taken.at) in
          let second : is_simple_at (slice_get s b) ≡ true = ap is_simple_at here ∙ simple_defining l e defining_is in
          record {
            before = last.before;
            first = ap is_simple_at line.1 ∙ simple_defining line.0 whole.defined whole.defining_is;
            second = second;
            sets = last.assigns;
            unassigned = last.alone;
            straight = fit.straight;
            not_live = fit.not_live;
            later = ⊎_elim (λ (g : assigns l x ≡ true). inl (ap (λ (o : Option Statement). assigns_at o x) here ∙ g))
                (λ (g : later x b ≡ false). inr (reported.not_live x b g)) fit.later_or;
            fixed = λ m low high. ap (λ (r : Expr). preserves (slice_get s m) (names r))
                (taken_is b l here e defining_is x a f.expression p)
                ∙ fit.fixed m low high;
          }

      defining_here : is_simple l ≡ true → expr_with l (map (λ x. stands decisions b x) (read_by l)) ≡ Some (decisions.exprs b)
      defining_here simple =
          let w = expr_there (λ x. stands decisions b x) l simple in
          let is : decisions.exprs b ≡ w.0 =
          ap (λ (o : Option (Option Expr × List Choice)). or_nothing (first_of o)) (entry_chosen b l here e defining_is)
          ∙ ap or_nothing (sym (defining_stands b l here e defining_is) ∙ w.1) in
          w.1 ∙ ap (λ (r : Expr). Some r) (sym is)

    inlined_at : (a b : ℕ) (x : List ℕ) → decisions.source b x ≡ Some a → IsInlined s decisions a b x
    inlined_at a b x from = pick (slice_get s b) refl
      where
        by_defining : (l : Statement) → slice_get s b ≡ Some l → (o : Option Expr) → defining l ≡ o → IsInlined s decisions a b x
        by_defining l here (Some e) f = inlined_here b l here e f a x from
        by_defining l here None f =
            let entry_is : slice_get whole_table b ≡ Some (None, []) =
            (at b l here).is ∙ ap (λ (o : Option Expr). Some (operands_chosen s later (at b l here).table b l o)) f in
            let none : decisions.source b x ≡ None =
            (λ i. source_in (read_at (here i)) (choices_at (entry_is i)) x) ∙ no_choices (read_by l) x in
            let bad : None ≡ Some a = sym none ∙ from in
            let no_one : ⊥ = cc in
            absurd no_one

        pick : (o : Option Statement) → slice_get s b ≡ o → IsInlined s decisions a b x
        pick None f =
            let none : decisions.source b x ≡ None = λ i. source_in (read_at (f i)) (choices_at (slice_get whole_table b)) x in
            let bad : None ≡ Some a = sym none ∙ from in
            let no_one : ⊥ = cc in
            absurd no_one
        pick (Some l) f = by_defining l f (defining l) refl

    dead_at : (p : ℕ) (x : List ℕ) → decisions.dead p ≡ true → assigns_at (slice_get s p) x ≡ true → NotLive s x p
    dead_at p x e f = pick (slice_get s p) e f
      where
        by_target : (t : Option (List ℕ)) → is_dead later p t ≡ true → is_this_name t x ≡ true → NotLive s x p
        by_target None e f = let bad : ⊥ = cc in absurd bad
        by_target (Some z) e f = subst (λ (y : List ℕ). NotLive s y p) (sym ((bytes_eq-Decides x z).0 f))
            (reported.not_live z p (not-true (later z p) e))

        pick : (o : Option Statement) → is_dead later p (target_at o) ≡ true → assigns_at o x ≡ true → NotLive s x p
        pick None e f = let bad : ⊥ = cc in absurd bad
        pick (Some l) e f = by_target (target_of l) e f

    paired_at : (p : ℕ) (x : List ℕ) → decisions.paired p ≡ true → assigns_at (slice_get s p) x ≡ true → (b : ℕ) ×
        (decisions.source b x ≡ Some p)
    paired_at p x e f =
        let w = first_reported p whole_table e in
        let c = some_reported p w.1.1 w.3 in
        by_line w.0 w.1 w.2 c.0 c.1 c.2 (slice_get s w.0) refl
      where
        by_defining : (b : ℕ) (en : Option Expr × List Choice) → slice_get whole_table b ≡ Some en → (i : ℕ) (r : Expr) →
            slice_get en.1 i ≡ Some (replaced p r) → (l : Statement) → slice_get s b ≡ Some l → (o : Option Expr) → defining l ≡ o → (b : ℕ)
            ×
            (decisions.source b x ≡ Some p)
        by_defining b en entry i r choice l here None g =
            let same : Some en ≡ Some (None, []) =
            sym entry ∙ (at b l here).is ∙ ap (λ (o : Option Expr). Some (operands_chosen s later (at b l here).table b l o)) g in
            let none : en.1 ≡ [] = ap (λ (o : Option (Option Expr × List Choice)). choices_at o) same in
            let gone : slice_get {X = Choice} [] i ≡ Some (replaced p r) = ap (λ (cs : List Choice). slice_get cs i) (sym none) ∙ choice in
            let bad : ⊥ = cc in
            absurd bad
        by_defining b en entry i r choice l here (Some first) g =
            let same : Some en ≡ Some (expr_with l (map (λ c. expr_of c) (chosen_here b l here)), chosen_here b l here) =
            sym entry ∙ entry_chosen b l here first g in
            let cs_is : en.1 ≡ chosen_here b l here = ap (λ (o : Option (Option Expr × List Choice)). choices_at o) same in
            let chosen : slice_get (chosen_here b l here) i ≡ Some (replaced p r) =
            ap (λ (cs : List Choice). slice_get cs i) (sym cs_is) ∙ choice in
            let y = operand_of (at b l here).table b l (read_by l) (chosen_here b l here) i (replaced p r) (picked_here b l here) chosen in
            let q : Taken s later (at b l here).table b l y.0 p r =
            taken_at s later (at b l here).table b l (read_by l) (chosen_here b l here) i y.0 p r (picked_here b l here) y.1 chosen in
            let name_is : x ≡ y.0 = one_target (slice_get s p) x y.0 f q.set.assigns in
            (b, by_source y.0 name_is (source_in (read_by l) (chosen_here b l here) y.0) refl q.found y.1 chosen)
          where
            by_source : (y : List ℕ) → x ≡ y → (o : Option ℕ) → source_in (read_by l) (chosen_here b l here) y ≡ o →
                setter s y b ≡ Some p → slice_get (read_by l) i ≡ Some y → slice_get (chosen_here b l here) i ≡ Some (replaced p r) →
                decisions.source b x ≡ Some p
            by_source y same None source set operand chosen = absurd
                (has_source (read_by l) (chosen_here b l here) y i p r operand chosen source)
            by_source y same (Some a) source set operand chosen =
                let t : Found (read_by l) (chosen_here b l here) y a = found (read_by l) (chosen_here b l here) y a source in
                let other : Taken s later (at b l here).table b l y a t.expression =
                taken_at s later (at b l here).table b l (read_by l) (chosen_here b l here) t.place y a t.expression (picked_here b l here)
                t.operand t.choice in
                ap (λ (w : List ℕ). decisions.source b w) same ∙ source_is b l here first g y ∙ source ∙ sym other.found ∙ set

        by_line : (b : ℕ) (en : Option Expr × List Choice) → slice_get whole_table b ≡ Some en → (i : ℕ) (r : Expr) →
            slice_get en.1 i ≡ Some (replaced p r) → (o : Option Statement) → slice_get s b ≡ o → (b : ℕ) × (decisions.source b x ≡ Some p)
        by_line b en entry i r choice (Some l) here = by_defining b en entry i r choice l here (defining l) refl
        by_line b en entry i r choice None here =
            let within : b < length whole_table = slice_get_within whole_table b en entry in
            let line = some_here s b (omega (arith, table_long s later)) in
            let bad : Some line.0 ≡ None = sym (at_here s b line.0 line.1 line.2) ∙ here in
            let no_one : ⊥ = cc in
            absurd no_one

    pub meets : HasKinds s → MeetsConditions s decisions
    meets kinds = record {
      kinds = kinds;
      defining = λ p l here simple. (let o = defining_simple l simple in defining_here p l here o.0 o.1 simple);
      inlined = inlined_at;
      dead = dead_at;
      paired = paired_at;
    }
