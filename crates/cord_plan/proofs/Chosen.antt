-- What stands for the operands of a line, and what holds of each entry of a script's table.
use Rattle.std.specs.Prelude.{◌≡◌, ◌⊎◌, ◌+◌, ◌<◌, ◌≤◌, ◌&&◌, ◌∷◌, ◌++◌, if◌then◌else◌}
use Rattle.cord_plan.proofs.Common.{ℕ, zero, suc, Bool, true, false, List, [], map, length, Option, Some, None, refl, sym, ap, ◌∙◌, subst}
use Rattle.cord_plan.proofs.Common.{inl, inr, ⊎_elim, arith, append_assoc, append-nil, length-append, slice_get, eq-or-lt_of_le, map-append}
use Rattle.cord_plan.proofs.Common.{Statement, Expr, name, assigns, assigns_at, ChoiceTable, Choice, named, replaced, expr_of, expr_with}
use Rattle.cord_plan.proofs.Common.{first_of, defining, setter, fits, is_small, chosen_from, chosen_of, choices, operands_chosen, grown}
use Rattle.cord_plan.proofs.Common.{exprs, and_parts, read_by, slice_get_cases, slice_get_within}
use Rattle.cord_plan.proofs.Pushed.{get_before}

-- the last element of a list, or one before it
pub last_or : {X : Type 0} (xs : List X) (y : X) (k : ℕ) (z : X) → slice_get (xs ++ y ∷ []) k ≡ Some z → (slice_get xs k ≡ Some z) ⊎
    ((k ≡ length xs) × (z ≡ y))
last_or [] y zero z e = let same : z ≡ y = cc in inr (refl, same)
last_or [] y (suc k) z e = let bad : ⊥ = cc in absurd bad
last_or (x ∷ xs) y zero z e = inl e
last_or (x ∷ xs) y (suc k) z e = shifted (last_or xs y k z e)
  where
    shifted : (slice_get xs k ≡ Some z) ⊎ ((k ≡ length xs) × (z ≡ y)) → (slice_get xs k ≡ Some z) ⊎ ((suc k ≡ length (x ∷ xs)) × (z ≡ y))
    shifted (inl h) = inl h
    shifted (inr h) =
        let same : k ≡ length xs = h.0 in
        let more : suc k ≡ length (x ∷ xs) = omega arith in
        inr (more, h.1)

-- the last line before p that assigns x assigns it, and no line after it does
pub record IsSetter (s : List Statement) (x : List ℕ) (p a : ℕ) : Type 0 where
  pub before : a < p
  pub assigns : assigns_at (slice_get s a) x ≡ true
  pub alone : (m : ℕ) → a < m → m < p → assigns_at (slice_get s m) x ≡ false

pub setter_is : (s : List Statement) (x : List ℕ) (p a : ℕ) → setter s x p ≡ Some a → IsSetter s x p a
setter_is s x zero a e = let bad : ⊥ = cc in absurd bad
setter_is s x (suc p) a e = pick (assigns_at (slice_get s p) x) refl e (λ h. setter_is s x p a h)
  where
    pick : (v : Bool) → assigns_at (slice_get s p) x ≡ v → (if v then Some p else setter s x p) ≡ Some a →
        (setter s x p ≡ Some a → IsSetter s x p a) → IsSetter s x (suc p) a
    pick true f h before =
        let same : p ≡ a = cc in
        record {
          before = omega arith;
          assigns = ap (λ (k : ℕ). assigns_at (slice_get s k) x) (sym same) ∙ f;
          alone = λ m low high. absurd (omega arith);
        }
    pick false f h before =
        let r : IsSetter s x p a = before h in
        let below : a < p = r.before in
        record {
          before = omega arith;
          assigns = r.assigns;
          alone = λ m low high.
              let le : m ≤ p = omega arith in
              ⊎_elim (λ (q : m ≡ p). ap (λ (k : ℕ). assigns_at (slice_get s k) x) q ∙ f) (λ (lt : m < p). r.alone m low lt)
              (eq-or-lt_of_le le);
        }

-- a line that assigns is there
pub line_there : (o : Option Statement) (x : List ℕ) → assigns_at o x ≡ true → (l : Statement) × (o ≡ Some l) × (assigns l x ≡ true)
line_there None x e = let bad : ⊥ = cc in absurd bad
line_there (Some l) x e = (l, refl, e)

abbrev pub choices_at : Option (Option Expr × List Choice) → List Choice
choices_at None = []
choices_at (Some en) = en.1

-- the entry of an expression
pub record EntryOf (table : ChoiceTable) (a : ℕ) (r : Expr) : Type 0 where
  pub choices : List Choice
  pub at : slice_get table a ≡ Some (Some r, choices)

pub entry_of : (table : ChoiceTable) (a : ℕ) (r : Expr) → first_of (slice_get table a) ≡ Some r → EntryOf table a r
entry_of table a r e = pick (slice_get table a) refl e
  where
    pick : (o : Option (Option Expr × List Choice)) → slice_get table a ≡ o → first_of o ≡ Some r → EntryOf table a r
    pick None at h = let bad : ⊥ = cc in absurd bad
    pick (Some en) at h = record { choices = en.1; at = at ∙ ap (λ (o : Option Expr). Some (o, en.1)) h }

module _ (s : List Statement) (later : List ℕ → ℕ → Bool) where
  -- the expression r of the line at a stands for x in the line l at b
  pub record Taken (table : ChoiceTable) (b : ℕ) (l : Statement) (x : List ℕ) (a : ℕ) (r : Expr) : Type 0 where
    pub found : setter s x b ≡ Some a
    pub set : IsSetter s x b a
    pub from : first_of (slice_get table a) ≡ Some r
    pub fit : fits s later r a b l x ≡ true

  -- what stands for the operand x, where these other operands stand before and after it
  abbrev pub Stands : ChoiceTable → ℕ → Statement → List Expr → List Expr → List ℕ → Choice → Type 0
  Stands table b l before after x (named y) = y ≡ x
  Stands table b l before after x (replaced a r) = Taken table b l x a r × (is_small (expr_with l (before ++ r ∷ after)) ≡ true)

  from_stands : (table : ChoiceTable) (b : ℕ) (l : Statement) (x : List ℕ) (before after : List Expr) (a : ℕ) (o : Option Expr) →
      setter s x b ≡ Some a → first_of (slice_get table a) ≡ o →
      Stands table b l before after x (chosen_from s later b l x before after a o)
  from_stands table b l x before after a None set from = refl
  from_stands table b l x before after a (Some r) set from = pick (fits s later r a b l x && is_small (expr_with l (before ++ r ∷ after)))
      refl
    where
      pick : (v : Bool) → (fits s later r a b l x && is_small (expr_with l (before ++ r ∷ after))) ≡ v →
          Stands table b l before after x (if v then replaced a r else named x)
      pick true e =
          let p = and_parts (fits s later r a b l x) (is_small (expr_with l (before ++ r ∷ after))) e in
          (record { found = set; set = setter_is s x b a set; from = from; fit = p.0 }, p.1)
      pick false e = refl

  chosen_stands : (table : ChoiceTable) (b : ℕ) (l : Statement) (x : List ℕ) (before after : List Expr) (o : Option ℕ) → setter s x b ≡ o →
      Stands table b l before after x (chosen_of s later table b l x before after o)
  chosen_stands table b l x before after None set = refl
  chosen_stands table b l x before after (Some a) set = from_stands table b l x before after a (first_of (slice_get table a)) set refl

  module _ (table : ChoiceTable) (b : ℕ) (l : Statement) where
    -- the operand, or the expression of the line that set it last
    abbrev pub Chosen : List ℕ → Choice → Type 0
    Chosen x (named y) = y ≡ x
    Chosen x (replaced a r) = Taken table b l x a r

    -- one choice for each operand
    abbrev pub AreChosen : List (List ℕ) → List Choice → Type 0
    AreChosen [] [] = Unit {0}
    AreChosen (x ∷ xs) (c ∷ cs) = Chosen x c × AreChosen xs cs
    AreChosen _ _ = ⊥

    chosen_then : (xs : List (List ℕ)) (cs : List Choice) (x : List ℕ) (c : Choice) → AreChosen xs cs → Chosen x c →
        AreChosen (xs ++ x ∷ []) (cs ++ c ∷ [])
    chosen_then [] [] x c h k = (k, tt)
    chosen_then (y ∷ xs) (d ∷ cs) x c h k = (h.0, chosen_then xs cs x c h.1 k)
    chosen_then _ _ x c h k = absurd h

    is_chosen : (before after : List Expr) (x : List ℕ) (c : Choice) → Stands table b l before after x c → Chosen x c
    is_chosen before after x (named y) h = h
    is_chosen before after x (replaced a r) h = h.0

    -- the choice for the next operand, after those that were made
    abbrev next : List Choice → List ℕ → List (List ℕ) → Choice
    next done x xs = chosen_of s later table b l x (map (λ c. expr_of c) done) (map (λ y. name y) xs) (setter s x b)

    next_stands : (done : List Choice) (x : List ℕ) (xs : List (List ℕ)) →
        Stands table b l (map (λ c. expr_of c) done) (map (λ y. name y) xs) x (next done x xs)
    next_stands done x xs = chosen_stands table b l x (map (λ c. expr_of c) done) (map (λ y. name y) xs) (setter s x b) refl

    pub are_chosen : (ys : List (List ℕ)) (done : List Choice) (xs : List (List ℕ)) → AreChosen ys done →
        AreChosen (ys ++ xs) (choices s later table b l done xs)
    are_chosen ys done [] h = subst (λ (zs : List (List ℕ)). AreChosen zs done) (sym (append-nil ys)) h
    are_chosen ys done (x ∷ xs) h =
        let c : Choice = next done x xs in
        let one : Chosen x c = is_chosen (map (λ c. expr_of c) done) (map (λ y. name y) xs) x c (next_stands done x xs) in
        subst (λ (zs : List (List ℕ)). AreChosen zs (choices s later table b l (done ++ c ∷ []) xs)) (append_assoc ys (x ∷ []) xs)
        (are_chosen (ys ++ x ∷ []) (done ++ c ∷ []) xs (chosen_then ys done x c h one))

    -- the line's expression with these choices, and the other operands as they are
    abbrev standing : List Choice → List (List ℕ) → Option Expr
    standing done xs = expr_with l (map (λ c. expr_of c) done ++ map (λ y. name y) xs)

    -- it is small, where one of the choices is a replacement
    abbrev pub IsSmall : List Choice → List (List ℕ) → Type 0
    IsSmall done xs = (k a : ℕ) (r : Expr) → slice_get done k ≡ Some (replaced a r) → is_small (standing done xs) ≡ true

    one_more : (done : List Choice) (c : Choice) (xs : List (List ℕ)) →
        standing (done ++ c ∷ []) xs ≡ expr_with l (map (λ c. expr_of c) done ++ expr_of c ∷ map (λ y. name y) xs)
    one_more done c xs = ap (λ (es : List Expr). expr_with l es)
        (ap (λ (es : List Expr). es ++ map (λ y. name y) xs) (map-append (λ (c : Choice). expr_of c) done (c ∷ []))
        ∙ append_assoc (map (λ c. expr_of c) done) (expr_of c ∷ []) (map (λ y. name y) xs))

    small_then : (done : List Choice) (x : List ℕ) (xs : List (List ℕ)) (c : Choice) →
        Stands table b l (map (λ c. expr_of c) done) (map (λ y. name y) xs) x c → IsSmall done (x ∷ xs) → IsSmall (done ++ c ∷ []) xs
    small_then done x xs (replaced a' r') h small k a r e = ap (λ (o : Option Expr). is_small o) (one_more done (replaced a' r') xs) ∙ h.1
    small_then done x xs (named y) h small k a r e = elim (last_or done (named y) k (replaced a r) e) [
      | inl f ↦ ap (λ (o : Option Expr). is_small o) (one_more done (named y) xs
          ∙ ap (λ (z : List ℕ). expr_with l (map (λ c. expr_of c) done ++ name z ∷ map (λ y. name y) xs)) h)
          ∙ small k a r f
      | inr f ↦ let bad : ⊥ = (let same = f.1 in cc) in absurd bad
    ]

    pub stay_small : (done : List Choice) (xs : List (List ℕ)) → IsSmall done xs → IsSmall (choices s later table b l done xs) []
    stay_small done [] small = small
    stay_small done (x ∷ xs) small = stay_small (done ++ next done x xs ∷ []) xs
        (small_then done x xs (next done x xs) (next_stands done x xs) small)

  -- what holds of each entry of a table
  abbrev pub EachEntry : (ℕ → Option Expr × List Choice → Type 0) → ChoiceTable → Type 0
  EachEntry P table = (k : ℕ) (en : Option Expr × List Choice) → slice_get table k ≡ Some en → P k en

  -- the entries of a table are those of the script's
  abbrev pub IsPrefix : ChoiceTable → Type 0
  IsPrefix table = EachEntry (λ k en. slice_get (exprs s later) k ≡ Some en) table

  pub grown_keeps : (table : ChoiceTable) (b : ℕ) (rest : List Statement) →
      EachEntry (λ k en. slice_get (grown s later table b rest) k ≡ Some en) table
  grown_keeps table b [] k en e = e
  grown_keeps table b (l ∷ rest) k en e =
      let more : Option Expr × List Choice = operands_chosen s later table b l (defining l) in
      grown_keeps (table ++ more ∷ []) (b + 1) rest k en (get_before table (more ∷ []) k en e)

  module _ (P : ℕ → Option Expr × List Choice → Type 0) (step : (table : ChoiceTable) (b : ℕ) (l : Statement) → slice_get s b ≡ Some l →
      IsPrefix table → EachEntry P table → P b (operands_chosen s later table b l (defining l))) where
    entry_then : (table : ChoiceTable) (en : Option Expr × List Choice) → EachEntry P table → P (length table) en → EachEntry P (table ++ en ∷ [])
    entry_then table en each one k other e = elim (last_or table en k other e) [
      | inl h ↦ each k other h
      | inr h ↦ subst (λ (n : ℕ). P n other) (sym h.0) (subst (λ (x : Option Expr × List Choice). P (length table) x) (sym h.1) one)
    ]

    grown_each : (table : ChoiceTable) (rest : List Statement) → ((k : ℕ) → slice_get s (length table + k) ≡ slice_get rest k) →
        grown s later table (length table) rest ≡ exprs s later → EachEntry P table → EachEntry P (exprs s later)
    grown_each table [] here whole each = subst (λ (t : ChoiceTable). EachEntry P t) whole each
    grown_each table (l ∷ rest) here whole each =
        let en : Option Expr × List Choice = operands_chosen s later table (length table) l (defining l) in
        let first : length table + 0 ≡ length table = omega arith in
        let at : slice_get s (length table) ≡ Some l = ap (λ (n : ℕ). slice_get s n) (sym first) ∙ here 0 in
        let long : length (table ++ en ∷ []) ≡ length table + 1 = length-append table (en ∷ []) in
        let next_at : (k : ℕ) → slice_get s (length (table ++ en ∷ []) + k) ≡ slice_get rest k =
        λ k. (let sum : length (table ++ en ∷ []) + k ≡ length table + suc k = omega (arith, long) in
        ap (λ (n : ℕ). slice_get s n) sum ∙ here (suc k)) in
        let prefix : IsPrefix table =
        λ k other e. subst (λ (t : ChoiceTable). slice_get t k ≡ Some other) whole (grown_keeps table (length table) (l ∷ rest) k other e) in
        let next_whole : grown s later (table ++ en ∷ []) (length (table ++ en ∷ [])) rest ≡ exprs s later =
        ap (λ (n : ℕ). grown s later (table ++ en ∷ []) n rest) long ∙ whole in
        grown_each (table ++ en ∷ []) rest next_at next_whole (entry_then table en each (step table (length table) l at prefix each))

    -- by what holds of a line's entry, where it holds of those before it
    pub each_entry : EachEntry P (exprs s later)
    each_entry = grown_each [] s (λ k. (let sum : length {A = Option Expr × List Choice} [] + k ≡ k = omega arith in
        ap (λ (n : ℕ). slice_get s n) sum)) refl (λ k en e. (let bad : ⊥ = cc in absurd bad))

  -- ---- the entries of a script's lines
  grown_length : (table : ChoiceTable) (b : ℕ) (rest : List Statement) → length (grown s later table b rest) ≡ length table + length rest
  grown_length table b [] = omega arith
  grown_length table b (l ∷ rest) =
      let en : Option Expr × List Choice = operands_chosen s later table b l (defining l) in
      omega (arith, grown_length (table ++ en ∷ []) (b + 1) rest, length-append table (en ∷ []))

  pub table_long : length (exprs s later) ≡ length s
  table_long = let none : length {A = Option Expr × List Choice} [] ≡ 0 = refl in grown_length [] 0 s ∙ omega (arith, none)

  -- that of a line, chosen over a prefix of the table
  pub record LineEntry (b : ℕ) (l : Statement) : Type 0 where
    pub table : ChoiceTable
    pub prefix : IsPrefix table
    pub is : slice_get (exprs s later) b ≡ Some (operands_chosen s later table b l (defining l))

  abbrev EntryOver : ℕ → Option Expr × List Choice → Type 0
  EntryOver k en = (l : Statement) → slice_get s k ≡ Some l → (table : ChoiceTable) × IsPrefix table ×
      (en ≡ operands_chosen s later table k l (defining l))

  entry_over : (table : ChoiceTable) (k : ℕ) (m : Statement) → slice_get s k ≡ Some m → IsPrefix table → EachEntry EntryOver table →
      EntryOver k (operands_chosen s later table k m (defining m))
  entry_over table k m here prefix each l there =
      let same : m ≡ l = cc in
      (table, prefix, ap (λ (w : Statement). operands_chosen s later table k w (defining w)) same)

  pub line_entry : (b : ℕ) (l : Statement) → slice_get s b ≡ Some l → LineEntry b l
  line_entry b l here = elim (slice_get_cases (exprs s later) b).1 [
    | inl w ↦
        let one = each_entry EntryOver entry_over b w.0 w.2 l here in
        record { table = one.0; prefix = one.1; is = w.2 ∙ ap (λ (en : Option Expr × List Choice). Some en) one.2 }
    | inr w ↦ absurd (omega (arith, w.0, table_long, slice_get_within s b l here))
  ]

  -- that of a line with an expression
  pub record SimpleEntry (b : ℕ) (l : Statement) (e : Expr) (cs : List Choice) : Type 0 where
    pub table : ChoiceTable
    pub prefix : IsPrefix table
    pub defined : Expr
    pub defining_is : defining l ≡ Some defined
    pub choices_are : choices s later table b l [] (read_by l) ≡ cs
    pub chosen : AreChosen table b l (read_by l) cs
    pub expression : expr_with l (map (λ c. expr_of c) cs) ≡ Some e

  pub simple_entry : (b : ℕ) (l : Statement) (e : Expr) (cs : List Choice) → slice_get s b ≡ Some l →
      slice_get (exprs s later) b ≡ Some (Some e, cs) → SimpleEntry b l e cs
  simple_entry b l e cs here there = pick (defining l) refl (sym w.is ∙ there)
    where
      w : LineEntry b l
      w = line_entry b l here

      pick : (o : Option Expr) → defining l ≡ o → Some (operands_chosen s later w.table b l o) ≡ Some (Some e, cs) → SimpleEntry b l e cs
      pick None f same = let gone : None ≡ Some e = ap first_of same in let bad : ⊥ = cc in absurd bad
      pick (Some defined) f same =
          let are : choices s later w.table b l [] (read_by l) ≡ cs = ap choices_at same in
          record {
            table = w.table;
            prefix = w.prefix;
            defined = defined;
            defining_is = f;
            choices_are = are;
            chosen = subst (λ (ds : List Choice). AreChosen w.table b l (read_by l) ds) are (are_chosen w.table b l [] [] (read_by l) tt);
            expression = ap (λ (ds : List Choice). expr_with l (map (λ c. expr_of c) ds)) (sym are) ∙ ap first_of same;
          }
