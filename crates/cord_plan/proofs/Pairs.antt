-- What the expressions of inlined pairs name, and how great they are.
use Rattle.std.specs.Prelude.{◌≡◌, ◌⊎◌, ◌+◌, ◌-◌, ◌<◌, ◌≤◌, ◌&&◌, ◌||◌, ◌∷◌, ◌++◌, ◌==◌}
use Rattle.cord_plan.proofs.Common.{ℕ, zero, suc, Bool, true, false, List, [], map, Option, Some, None, refl, sym, ap, ◌∙◌, subst, inl, inr}
use Rattle.cord_plan.proofs.Common.{⊎_elim, arith, append-nil, slice_get, not, nat_le, bytes_eq, leb-true, leb-false, eqb-true, Grammar}
use Rattle.cord_plan.proofs.Common.{ReadsBy, Statement, Expr, parts, names, count, has, read_by, reads_at, assigns, assigns_at, ChoiceTable}
use Rattle.cord_plan.proofs.Common.{Choice, named, replaced, expr_of, expr_with, is_small, is_block_at, each_from, preserves}
use Rattle.cord_plan.proofs.Common.{defining, choices, exprs, operands_chosen, IsPair, numbers_named, numbers_named_at, IsNoNumber, or_cases}
use Rattle.cord_plan.proofs.Common.{not-true, false_from_ne_true, and_parts, or-false}
use Rattle.cord_plan.specs.declared.TheConstants.{MAX_EXPR_PARTS}
use Rattle.cord_plan.proofs.Chosen.{Taken, Chosen, AreChosen, EachEntry, EntryOf, SimpleEntry, are_chosen, each_entry, entry_of}
use Rattle.cord_plan.proofs.Chosen.{simple_entry, stay_small}
use Rattle.cord_plan.proofs.Named.{same_bytes, has_at, one_place, each_at, preserves_at, SomeNames, Names, with_names}
use Rattle.cord_plan.proofs.ReadKinds.{no_number}

module _ (s : List Statement) (later : List ℕ → ℕ → Bool) where
  -- what is known where the expression r of the line at a stands for x in the line l at b
  pub record Facts (r : Expr) (a b : ℕ) (l : Statement) (x : List ℕ) : Type 0 where
    pub straight : (m : ℕ) → a < m → m < b → is_block_at (slice_get s m) ≡ false
    pub not_live : (m : ℕ) → a < m → m < b → reads_at (slice_get s m) x ≡ false
    pub once : count x (read_by l) ≡ 1
    pub later_or : (assigns l x ≡ true) ⊎ (later x b ≡ false)
    pub fixed : (m : ℕ) → a ≤ m → m < b → preserves (slice_get s m) (names r) ≡ true

  pub taken_facts : (table : ChoiceTable) (b : ℕ) (l : Statement) (x : List ℕ) (a : ℕ) (r : Expr) → Taken s later table b l x a r → Facts r a b l x
  taken_facts table b l x a r h =
      let quiet : ℕ → Bool = λ m. not (is_block_at (slice_get s m)) && not (reads_at (slice_get s m) x) in
      let preserved : ℕ → Bool = λ m. preserves (slice_get s m) (names r) in
      let p = and_parts (each_from quiet (b - (a + 1)) (a + 1))
      ((count x (read_by l) == 1) && ((assigns l x || not (later x b)) && each_from preserved (b - a) a)) h.fit in
      let q = and_parts (count x (read_by l) == 1) ((assigns l x || not (later x b)) && each_from preserved (b - a) a) p.1 in
      let w = and_parts (assigns l x || not (later x b)) (each_from preserved (b - a) a) q.1 in
      let between : (m : ℕ) → a < m → m < b → quiet m ≡ true =
      λ m low high. each_at quiet (b - (a + 1)) (a + 1) m p.0 (omega arith) (omega arith) in
      record {
        straight = λ m low high. not-true (is_block_at (slice_get s m))
            (and_parts (not (is_block_at (slice_get s m))) (not (reads_at (slice_get s m) x)) (between m low high)).0;
        not_live = λ m low high. not-true (reads_at (slice_get s m) x)
            (and_parts (not (is_block_at (slice_get s m))) (not (reads_at (slice_get s m) x)) (between m low high)).1;
        once = eqb-true (count x (read_by l)) 1 q.0;
        later_or = ⊎_elim (λ (e : assigns l x ≡ true). inl e) (λ (e : not (later x b) ≡ true). inr (not-true (later x b) e))
            (or_cases (assigns l x) (not (later x b)) w.0);
        fixed = λ m low high. each_at preserved (b - a) a m w.1 low (omega arith);
      }

  -- a line reads the bytes of a name, or has it as the name of a number
  abbrev NamesIt : Option Statement → List ℕ → Type 0
  NamesIt l y = (reads_at l y ≡ true) ⊎ (has (numbers_named_at l) y ≡ true)

  -- y is named by a line up to k, and by none from there to k assigned
  record NamedBy (k : ℕ) (y : List ℕ) : Type 0 where
    place : ℕ
    up_to : place ≤ k
    names_it : NamesIt (slice_get s place) y
    stays : (m : ℕ) → place ≤ m → m < k → assigns_at (slice_get s m) y ≡ false

  abbrev EntryNamed : ℕ → Option Expr × List Choice → Type 0
  EntryNamed k en = (e : Expr) (y : List ℕ) → en.0 ≡ Some e → has (names e) y ≡ true → NamedBy k y

  -- what stands at a place among the expressions of choices
  record ChosenAt (table : ChoiceTable) (b : ℕ) (l : Statement) (xs : List (List ℕ)) (cs : List Choice) (k : ℕ) (f : Expr) : Type 0 where
    operand : List ℕ
    choice : Choice
    is_operand : slice_get xs k ≡ Some operand
    is_choice : slice_get cs k ≡ Some choice
    is : expr_of choice ≡ f
    chosen : Chosen s later table b l operand choice

  chosen_at : (table : ChoiceTable) (b : ℕ) (l : Statement) (xs : List (List ℕ)) (cs : List Choice) (k : ℕ) (f : Expr) →
      AreChosen s later table b l xs cs → slice_get (map (λ c. expr_of c) cs) k ≡ Some f → ChosenAt table b l xs cs k f
  chosen_at table b l [] [] k f h e = let bad : ⊥ = cc in absurd bad
  chosen_at table b l (x ∷ xs) (c ∷ cs) zero f h e =
      record { operand = x; choice = c; is_operand = refl; is_choice = refl; is = (let same : expr_of c ≡ f = cc in same); chosen = h.0 }
  chosen_at table b l (x ∷ xs) (c ∷ cs) (suc k) f h e =
      let r : ChosenAt table b l xs cs k f = chosen_at table b l xs cs k f h.1 e in
      record { operand = r.operand; choice = r.choice; is_operand = r.is_operand; is_choice = r.is_choice; is = r.is; chosen = r.chosen }
  chosen_at table b l _ _ k f h e = absurd h

  -- the replacement at an operand's place
  pub taken_at : (table : ChoiceTable) (b : ℕ) (l : Statement) (xs : List (List ℕ)) (cs : List Choice) (i : ℕ) (t : List ℕ) (a : ℕ) (r : Expr) →
      AreChosen s later table b l xs cs → slice_get xs i ≡ Some t → slice_get cs i ≡ Some (replaced a r) → Taken s later table b l t a r
  taken_at table b l [] cs i t a r h e f = let bad : ⊥ = cc in absurd bad
  taken_at table b l (x ∷ xs) [] i t a r h e f = absurd h
  taken_at table b l (x ∷ xs) (c ∷ cs) zero t a r h e f =
      let same : x ≡ t = cc in
      let is : c ≡ replaced a r = cc in
      subst (λ (w : List ℕ). Taken s later table b l w a r) same (subst (λ (d : Choice). Chosen s later table b l x d) is h.0)
  taken_at table b l (x ∷ xs) (c ∷ cs) (suc i) t a r h e f = taken_at table b l xs cs i t a r h.1 e f

  module _ (table : ChoiceTable) (b : ℕ) (l : Statement) (at : slice_get s b ≡ Some l) (each : EachEntry s later EntryNamed table) where
    abbrev made : List Choice
    made = choices s later table b l [] (read_by l)

    are_made : AreChosen s later table b l (read_by l) made
    are_made = are_chosen s later table b l [] [] (read_by l) tt

    named_here : (y : List ℕ) → NamesIt (Some l) y → NamedBy b y
    named_here y h = record {
      place = b;
      up_to = omega arith;
      names_it = subst (λ (o : Option Statement). NamesIt o y) (sym at) h;
      stays = λ m low high. absurd (omega arith);
    }

    -- what the replaced expression of the line at a names
    named_there : (x : List ℕ) (a : ℕ) (r : Expr) (y : List ℕ) → Taken s later table b l x a r → has (names r) y ≡ true →
        (n : NamedBy b y) × (n.place ≤ a)
    named_there x a r y h is_named =
        let low : n.place ≤ a = n.up_to in
        let before : a < b = h.set.before in
        let stays : (m : ℕ) → n.place ≤ m → m < b → assigns_at (slice_get s m) y ≡ false =
        λ m least most. two m least most (nat_le a m) refl in
        (record { place = n.place; up_to = omega arith; names_it = n.names_it; stays = stays }, low)
      where
        n : NamedBy a y
        n = let from : EntryOf table a r = entry_of table a r h.from in each a (Some r, from.choices) from.at r y refl is_named

        two : (m : ℕ) → n.place ≤ m → m < b → (v : Bool) → nat_le a m ≡ v → assigns_at (slice_get s m) y ≡ false
        two m least most true e =
            preserves_at (slice_get s m) (names r) y ((taken_facts table b l x a r h).fixed m (leb-true a m e) most) is_named
        two m least most false e = n.stays m least (leb-false a m e)

    chosen_named : (k : ℕ) (f : Expr) (y : List ℕ) → (c : ChosenAt table b l (read_by l) made k f) → has (names f) y ≡ true → NamedBy b y
    chosen_named k f y c is_named = pick c.choice c.is c.chosen
      where
        pick : (d : Choice) → expr_of d ≡ f → Chosen s later table b l c.operand d → NamedBy b y
        pick (named z) same is =
            let e : bytes_eq y z ≡ true = sym (or-false (bytes_eq y z)) ∙ subst (λ (g : Expr). has (names g) y ≡ true) (sym same) is_named in
            named_here y (inl (subst (λ (w : List ℕ). has (read_by l) w ≡ true) (sym (same_bytes y z e ∙ is))
            (has_at (read_by l) k c.operand c.is_operand)))
        pick (replaced a r) same taken =
            (named_there c.operand a r y taken (subst (λ (g : Expr). has (names g) y ≡ true) (sym same) is_named)).0

    entry_named : (o : Option Expr) → EntryNamed b (operands_chosen s later table b l o)
    entry_named None e y is is_named = let bad : ⊥ = cc in absurd bad
    entry_named (Some first) e y is is_named = pick (subst (λ (q : Option Expr). Names l (map (λ c. expr_of c) made) y q) is
        (with_names l (map (λ c. expr_of c) made) y) is_named)
      where
        pick : SomeNames (map (λ c. expr_of c) made) y ⊎ (has (numbers_named l) y ≡ true) → NamedBy b y
        pick (inl h) = chosen_named h.place h.expression y (chosen_at table b l (read_by l) made h.place h.expression are_made h.is)
            h.names_it
        pick (inr h) = named_here y (inr h)

    module _ (t : List ℕ) (a i : ℕ) (r : Expr) (operand : slice_get (read_by l) i ≡ Some t)
        (is_replaced : slice_get made i ≡ Some (replaced a r)) (no_number : IsNoNumber s t) where
      taken : Taken s later table b l t a r
      taken = taken_at table b l (read_by l) made i t a r are_made operand is_replaced

      known : Facts r a b l t
      known = taken_facts table b l t a r taken

      clash : (v : Bool) → v ≡ true → v ≡ false → ⊥
      clash v e f = let bad : true ≡ false = sym e ∙ f in cc

      -- no other replacement names t
      not_there : (x : List ℕ) (k : ℕ) (q : Expr) → Taken s later table b l x k q → has (names q) t ≡ true → ⊥
      not_there x k q h is_named = pick (nat_le n.place a) refl
        where
          both : (n : NamedBy b t) × (n.place ≤ k)
          both = named_there x k q t h is_named

          n : NamedBy b t
          n = both.0

          pick : (v : Bool) → nat_le n.place a ≡ v → ⊥
          pick true e = clash (assigns_at (slice_get s a) t) taken.set.assigns (n.stays a (leb-true n.place a e) taken.set.before)
          pick false e =
              let above : a < n.place = leb-false n.place a e in
              let low : n.place ≤ k = both.1 in
              let high : k < b = h.set.before in
              by_name above (omega arith) n.names_it
            where
              by_name : a < n.place → n.place < b → NamesIt (slice_get s n.place) t → ⊥
              by_name low high (inl f) = clash (reads_at (slice_get s n.place) t) f (known.not_live n.place low high)
              by_name low high (inr f) = clash (has (numbers_named_at (slice_get s n.place)) t) f (no_number n.place)

      not_chosen : (k : ℕ) (f : Expr) → (c : ChosenAt table b l (read_by l) made k f) → has (names f) t ≡ true → ⊥
      not_chosen k f c is_named = pick c.choice c.is c.is_choice c.chosen
        where
          pick : (d : Choice) → expr_of d ≡ f → slice_get made k ≡ Some d → Chosen s later table b l c.operand d → ⊥
          pick (named z) same there is =
              let e : bytes_eq t z ≡ true = sym (or-false (bytes_eq t z)) ∙ subst (λ (g : Expr). has (names g) t ≡ true) (sym same) is_named in
              let name_is : c.operand ≡ t = sym (same_bytes t z e ∙ is) in
              let here : slice_get (read_by l) k ≡ Some t = c.is_operand ∙ ap (λ (w : List ℕ). Some w) name_is in
              let place : i ≡ k = one_place t (read_by l) i k known.once operand here in
              let bad : Some (replaced a r) ≡ Some (named z) = sym is_replaced ∙ ap (λ (n : ℕ). slice_get made n) place ∙ there in
              cc
          pick (replaced k q) same there h = not_there c.operand k q h (subst (λ (g : Expr). has (names g) t ≡ true) (sym same) is_named)

      left_out : (e : Expr) → expr_with l (map (λ c. expr_of c) made) ≡ Some e → has (names e) t ≡ false
      left_out e is = false_from_ne_true (has (names e) t)
          (λ is_named. pick (subst (λ (q : Option Expr). Names l (map (λ c. expr_of c) made) t q) is
          (with_names l (map (λ c. expr_of c) made) t) is_named))
        where
          pick : SomeNames (map (λ c. expr_of c) made) t ⊎ (has (numbers_named l) t ≡ true) → ⊥
          pick (inl h) = not_chosen h.place h.expression (chosen_at table b l (read_by l) made h.place h.expression are_made h.is)
              h.names_it
          pick (inr h) = clash (has (numbers_named l) t) h (ap (λ (o : Option Statement). has (numbers_named_at o) t) (sym at)
              ∙ no_number b)

  module _ (a b : ℕ) (t : List ℕ) (e : Expr) (pair : IsPair s later a b t e) where
    whole : SimpleEntry s later b pair.line e pair.choices
    whole = simple_entry s later b pair.line e pair.choices pair.is_line pair.is_expression

    is_replaced : slice_get (choices s later whole.table b pair.line [] (read_by pair.line)) pair.operand ≡ Some (replaced a pair.earlier)
    is_replaced = ap (λ (cs : List Choice). slice_get cs pair.operand) whole.choices_are ∙ pair.is_replaced

    is_expression : expr_with pair.line (map (λ c. expr_of c) (choices s later whole.table b pair.line [] (read_by pair.line))) ≡ Some e
    is_expression = ap (λ (cs : List Choice). expr_with pair.line (map (λ c. expr_of c) cs)) whole.choices_are ∙ whole.expression

    pub leaves_out : IsNoNumber s t → has (names e) t ≡ false
    leaves_out no_number =
        left_out whole.table b pair.line pair.is_line (λ k en at. all_named k en (whole.prefix k en at)) t a pair.operand pair.earlier
        pair.is_operand is_replaced no_number e is_expression
      where
        all_named : EachEntry s later EntryNamed (exprs s later)
        all_named = each_entry s later EntryNamed (λ table b l at prefix each. entry_named table b l at each (defining l))

    pub stays_small : parts e ≤ MAX_EXPR_PARTS
    stays_small =
        let cs : List Choice = choices s later whole.table b pair.line [] (read_by pair.line) in
        let small : is_small (expr_with pair.line (map (λ c. expr_of c) cs ++ [])) ≡ true =
        stay_small s later whole.table b pair.line [] (read_by pair.line) (λ k n q f. (let bad : ⊥ = cc in absurd bad)) pair.operand a
        pair.earlier is_replaced in
        leb-true (parts e) MAX_EXPR_PARTS (ap (λ (o : Option Expr). is_small o) (sym is_expression
        ∙ ap (λ (es : List Expr). expr_with pair.line es) (sym (append-nil (map (λ c. expr_of c) cs)))) ∙ small)

  -- the same in a script that is read
  pub leaves_out_read : (g : Grammar) (text : List ℕ) → ReadsBy g text s → (a b : ℕ) (t : List ℕ) (e : Expr) → IsPair s later a b t e →
      has (names e) t ≡ false
  leaves_out_read g text read a b t e h =
      leaves_out a b t e h (no_number g text s b h.operand h.line t read h.is_line h.is_operand)
