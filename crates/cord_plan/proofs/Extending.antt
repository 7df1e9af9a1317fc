-- Operations that join what the one before them joins, and one member more.
use Rattle.std.specs.Prelude.{◌≡◌, ◌+◌, ◌-◌, ◌∷◌, ◌&&◌, ◌||◌, ◌==◌}
use Rattle.cord_plan.proofs.Common.{ℕ, suc, Bool, true, false, List, [], map, Option, Some, pos, refl, sym, ap, ◌∙◌, subst}
use Rattle.cord_plan.proofs.Common.{arith, slice_get, and-false, eqb-true, Number, Numeral, Statement, Chars, Nul, Cat, Catn, Catc, Substr}
use Rattle.cord_plan.proofs.Common.{Put, Expr, Exprs, name, run, cat, nothing, member, append, lacks, members, names, Extends, IsLonger}
use Rattle.cord_plan.proofs.Common.{joined_at, joined_by, AreExtending, Choice, ChoiceTable, choices, defining, expr_of, expr_with, exprs}
use Rattle.cord_plan.proofs.Common.{named, operands_chosen, preserves, replaced, AreLonger, IsLongerAt, is_last, is_longer, is_named}
use Rattle.cord_plan.proofs.Common.{assigns, read_by, target_of, Joined, Operation, gives, is_dead, is_first, operation, or_nothing}
use Rattle.cord_plan.proofs.Common.{planned, and_parts}
use Rattle.cord_plan.specs.Exprs.{names_of}
use Rattle.cord_plan.proofs.Chosen.{AreChosen, EntryOf, IsPrefix, LineEntry, Taken, are_chosen, choices_at, entry_of, line_entry, line_there}
use Rattle.cord_plan.proofs.Lacking.{preserves_lacking}
use Rattle.cord_plan.proofs.Pairs.{taken_at, taken_facts}
use Rattle.cord_plan.proofs.PlannedPairs.{has_defining, operation_at}
use Rattle.cord_plan.proofs.ReadNames.{HasDefining}

-- ---- one operation
-- the operation of a line that makes a `cat` gives its target what the members join
record Joins (l : Statement) (o : Operation) (es : Exprs) : Type 0 where
  target : List ℕ
  is_target : target_of l ≡ Some target
  joined : joined_by o ≡ Some (target, es)

gives_cat : (v : Bool) (line : ℕ) (x : List ℕ) (es : Exprs) → joined_by (gives v line x (Joined (cat es))) ≡ Some (x, es)
gives_cat true line x es = refl
gives_cat false line x es = refl

given_joins : (l : Statement) (v : Bool) (line : ℕ) (x : List ℕ) (es : Exprs) → target_of l ≡ Some x →
    Joins l (gives v line x (Joined (cat es))) es
given_joins l v line x es target = record { target = x; is_target = target; joined = gives_cat v line x es }

line_joins : (l : Statement) (es : Exprs) (dead paired : Bool) (x : List ℕ) → assigns l x ≡ true → HasDefining (defining l) →
    Joins l (operation l (cat es) dead paired) es
line_joins (Cat line target left right) es dead paired x a simple = given_joins _ (dead || paired) line target es refl
line_joins (Catn line target many) es dead paired x a simple = given_joins _ (dead || paired) line target es refl
line_joins (Catc line target operand byte) es dead paired x a simple = given_joins _ (dead || paired) line target es refl
line_joins (Chars line target byte n) es dead paired x a simple = given_joins _ (dead || paired) line target es refl
line_joins (Nul line target n) es dead paired x a simple = given_joins _ (dead || paired) line target es refl
line_joins (Substr line target operand start n) es dead paired x a simple = given_joins _ (dead || paired) line target es refl
line_joins (Put line operand) es dead paired x a simple = let bad : ⊥ = cc in absurd bad
line_joins l es dead paired x a simple = absurd simple

-- ---- the choices of a line
-- a choice that takes the members that the line before b joins
record Last (b : ℕ) (c : Choice) : Type 0 where
  place : ℕ
  first : Exprs
  before : place + 1 ≡ b
  is : c ≡ replaced place (cat first)

no_cat : (v : Bool) → (v && false) ≡ true → ⊥
no_cat v h = let bad : false ≡ true = sym (and-false v) ∙ h in cc

last_reported : (b : ℕ) (c : Choice) → is_last b c ≡ true → Last b c
last_reported b (named x) h = let bad : ⊥ = cc in absurd bad
last_reported b (replaced a (cat es)) h =
    let one : b - a ≡ 1 = eqb-true (b - a) 1 (and_parts (b - a == 1) true h).0 in
    record { place = a; first = es; before = (let next : a + 1 ≡ b = omega (arith, one) in next); is = refl }
last_reported b (replaced a e) h = absurd (no_cat (b - a == 1) h)

named_reported : (c : Choice) → is_named c ≡ true → (x : List ℕ) × (c ≡ named x)
named_reported (named x) h = (x, refl)
named_reported (replaced a e) h = let bad : ⊥ = cc in absurd bad

-- a line whose first choice takes the members that the line before it joins, and what it joins itself: those and one more
record Longer (b : ℕ) (l : Statement) (cs : List Choice) : Type 0 where
  choice : Choice
  last : Last b choice
  taken : slice_get cs 0 ≡ Some choice
  operand : List ℕ
  reads : slice_get (read_by l) 0 ≡ Some operand
  target : List ℕ
  more : Expr
  joined : (dead paired : Bool) → joined_by (operation l (or_nothing (expr_with l (map (λ c. expr_of c) cs))) dead paired)
      ≡ Some (target, append last.first (member more nothing))

either_gives : (v : Bool) (line : ℕ) (x : List ℕ) (es fs : Exprs) → es ≡ fs → joined_by (gives v line x (Joined (cat es))) ≡ Some (x, fs)
either_gives v line x es fs same = gives_cat v line x es ∙ ap (λ (gs : Exprs). Some (x, gs)) same

module _ (b : ℕ) (c : Choice) (last : Last b c) where
  two_members : (d : Choice) (y : List ℕ) → d ≡ named y →
      members (expr_of c ∷ expr_of d ∷ []) ≡ append last.first (member (name y) nothing)
  two_members d y is =
      ap (λ (x : Choice). members (expr_of x ∷ expr_of d ∷ [])) last.is
      ∙ ap (λ (x : Choice). members (cat last.first ∷ expr_of x ∷ [])) is

  one_members : (byte : Number) → members (expr_of c ∷ run byte (Numeral (pos 1)) ∷ [])
      ≡ append last.first (member (run byte (Numeral (pos 1))) nothing)
  one_members byte = ap (λ (x : Choice). members (expr_of x ∷ run byte (Numeral (pos 1)) ∷ [])) last.is

-- a line that makes a `cat` of what is chosen for two operands, of which the first takes those members and the second is a name
joins_two : (b line : ℕ) (target x : List ℕ) (l : Statement) (c d : Choice) → slice_get (read_by l) 0 ≡ Some x →
    ((dead paired : Bool) → operation l (or_nothing (expr_with l (expr_of c ∷ expr_of d ∷ []))) dead paired
    ≡ gives (dead || paired) line target (Joined (cat (members (expr_of c ∷ expr_of d ∷ []))))) →
    (is_last b c && is_named d) ≡ true → Longer b l (c ∷ d ∷ [])
joins_two b line target x l c d first made h =
    let p = and_parts (is_last b c) (is_named d) h in
    let last : Last b c = last_reported b c p.0 in
    let other : (y : List ℕ) × (d ≡ named y) = named_reported d p.1 in
    record {
      choice = c;
      last = last;
      taken = refl;
      operand = x;
      reads = first;
      target = target;
      more = name other.0;
      joined = λ dead paired. ap joined_by (made dead paired)
          ∙ either_gives (dead || paired) line target _ _ (two_members b c last d other.0 other.1);
    }

cat_longer : (b line : ℕ) (target left right : List ℕ) (cs : List Choice) → is_longer b (Cat line target left right) cs ≡ true →
    Longer b (Cat line target left right) cs
cat_longer b line target left right (c ∷ d ∷ []) h =
    joins_two b line target left (Cat line target left right) c d refl (λ dead paired. refl) h
cat_longer b line target left right cs h = let bad : ⊥ = cc in absurd bad

catn_longer : (b line : ℕ) (target : List ℕ) (many : List (List ℕ)) (x : List ℕ) (cs : List Choice) → slice_get many 0 ≡ Some x →
    is_longer b (Catn line target many) cs ≡ true → Longer b (Catn line target many) cs
catn_longer b line target many x (c ∷ d ∷ []) first h = joins_two b line target x (Catn line target many) c d first (λ dead paired. refl) h
catn_longer b line target many x cs first h = let bad : ⊥ = cc in absurd bad

catc_longer : (b line : ℕ) (target operand : List ℕ) (byte : Number) (cs : List Choice) →
    is_longer b (Catc line target operand byte) cs ≡ true → Longer b (Catc line target operand byte) cs
catc_longer b line target operand byte (c ∷ []) h =
    let last : Last b c = last_reported b c h in
    record {
      choice = c;
      last = last;
      taken = refl;
      operand = operand;
      reads = refl;
      target = target;
      more = run byte (Numeral (pos 1));
      joined = λ dead paired. either_gives (dead || paired) line target _ _ (one_members b c last byte);
    }
catc_longer b line target operand byte cs h = let bad : ⊥ = cc in absurd bad

-- ---- the operations of a script
module _ (s : List Statement) (later : List ℕ → ℕ → Bool) where
  -- the operation at a place joins these members, which don't name its target
  record Source (a : ℕ) (es : Exprs) : Type 0 where
    target : List ℕ
    joined : joined_at (slice_get (planned s later) a) ≡ Some (target, es)
    lacking : lacks (names_of es) target ≡ true

  -- no name of an expression that stands for an operand is assigned by its line
  taken_stays : (t : ChoiceTable) (b : ℕ) (l : Statement) (x : List ℕ) (a : ℕ) (r : Expr) → Taken s later t b l x a r →
      preserves (slice_get s a) (names r) ≡ true
  taken_stays t b l x a r h = (taken_facts s later t b l x a r h).fixed a (omega arith) h.set.before

  operation_there : (k : ℕ) (l : Statement) (en : Option Expr × List Choice) → slice_get s k ≡ Some l →
      slice_get (exprs s later) k ≡ Some en →
      (dead : Bool) × (paired : Bool) × (slice_get (planned s later) k ≡ Some (operation l (or_nothing en.0) dead paired))
  operation_there k l en at entered =
      (is_dead later (0 + k) (target_of l), is_first (0 + k) (exprs s later), operation_at later (exprs s later) 0 s (exprs s later) k l en at entered)

  module _ (t : ChoiceTable) (b : ℕ) (prefix : IsPrefix s later t) where
    source_of_taken : (l : Statement) (x : List ℕ) (a : ℕ) (es : Exprs) → Taken s later t b l x a (cat es) → Source a es
    source_of_taken l x a es h =
        record { target = j.target; joined = ap joined_at found.2 ∙ j.joined; lacking = lacking }
      where
        there : (m : Statement) × (slice_get s a ≡ Some m) × (assigns m x ≡ true)
        there = line_there (slice_get s a) x h.set.assigns

        from : EntryOf t a (cat es)
        from = entry_of t a (cat es) h.from

        entered : slice_get (exprs s later) a ≡ Some (Some (cat es), from.choices)
        entered = prefix a (Some (cat es), from.choices) from.at

        found : (dead : Bool) × (paired : Bool)
            × (slice_get (planned s later) a ≡ Some (operation there.0 (cat es) dead paired))
        found = operation_there a there.0 (Some (cat es), from.choices) there.1 entered

        j : Joins there.0 (operation there.0 (cat es) found.0 found.1) es
        j = line_joins there.0 es found.0 found.1 x there.2 (has_defining s later a there.0 (cat es) from.choices there.1 entered)

        lacking : lacks (names_of es) j.target ≡ true
        lacking = sym (preserves_lacking there.0 j.target j.is_target (names_of es))
            ∙ (ap (λ (q : Option Statement). preserves q (names_of es)) (sym there.1) ∙ taken_stays t b l x a (cat es) h)

    -- where the choices of a line say that it joins more than the line before it, its operation does
    longer_extends : (l : Statement) (cs : List Choice) → slice_get s b ≡ Some l →
        slice_get (exprs s later) b ≡ Some (expr_with l (map (λ c. expr_of c) cs), cs) → AreChosen s later t b l (read_by l) cs →
        Longer b l cs → Extends (planned s later) b
    longer_extends l cs at entered chosen w =
        subst (λ (n : ℕ). Extends (planned s later) n) next (
        subst (λ (j : Option (List ℕ × Exprs)). IsLonger j (joined_at (slice_get (planned s later) (suc w.last.place)))) (sym r.joined)
        (subst (λ (j : Option (List ℕ × Exprs)). IsLonger (Some (r.target, w.last.first)) j) (sym second)
        (r.lacking, (w.more, refl))))
      where
        next : suc w.last.place ≡ b
        next = let before : w.last.place + 1 ≡ b = w.last.before in omega arith

        r : Source w.last.place w.last.first
        r = source_of_taken l w.operand w.last.place w.last.first
            (taken_at s later t b l (read_by l) cs 0 w.operand w.last.place (cat w.last.first) chosen w.reads
            (w.taken ∙ ap (λ (c : Choice). Some c) w.last.is))

        found : (dead : Bool) × (paired : Bool)
            × (slice_get (planned s later) b ≡ Some (operation l (or_nothing (expr_with l (map (λ c. expr_of c) cs))) dead paired))
        found = operation_there b l (expr_with l (map (λ c. expr_of c) cs), cs) at entered

        second : joined_at (slice_get (planned s later) (suc w.last.place)) ≡ Some (w.target, append w.last.first (member w.more nothing))
        second = ap (λ (n : ℕ). joined_at (slice_get (planned s later) n)) next
            ∙ (ap joined_at found.2 ∙ w.joined found.0 found.1)

    abbrev made : Statement → List Choice
    made l = choices s later t b l [] (read_by l)

    are_made : (l : Statement) → AreChosen s later t b l (read_by l) (made l)
    are_made l = are_chosen s later t b l [] [] (read_by l) tt

    extends_here : (l : Statement) → slice_get s b ≡ Some l →
        slice_get (exprs s later) b ≡ Some (operands_chosen s later t b l (defining l)) →
        is_longer b l (operands_chosen s later t b l (defining l)).1 ≡ true → Extends (planned s later) b
    extends_here (Cat line target left right) at entered longer =
        let l = Cat line target left right in
        longer_extends l (made l) at entered (are_made l) (cat_longer b line target left right (made l) longer)
    extends_here (Catn line target (x ∷ xs)) at entered longer =
        let l = Catn line target (x ∷ xs) in
        longer_extends l (made l) at entered (are_made l) (catn_longer b line target (x ∷ xs) x (made l) refl longer)
    extends_here (Catc line target operand byte) at entered longer =
        let l = Catc line target operand byte in
        longer_extends l (made l) at entered (are_made l) (catc_longer b line target operand byte (made l) longer)
    extends_here l at entered longer = let bad : ⊥ = cc in absurd bad

  -- each line of which it is reported that it joins more than the line before it has an operation that does
  pub all_extending : (reported : List Bool) → AreLonger s later reported → AreExtending reported (planned s later)
  all_extending reported longer place h =
      let w : IsLongerAt s later place = longer place h in
      let here : LineEntry s later place w.line = line_entry s later place w.line w.at in
      let both : Some w.entry ≡ Some (operands_chosen s later here.table place w.line (defining w.line)) = sym w.entered ∙ here.is in
      extends_here here.table place here.prefix w.line w.at here.is
      (ap (λ (o : Option (Option Expr × List Choice)). is_longer place w.line (choices_at o)) (sym both) ∙ w.longer)
