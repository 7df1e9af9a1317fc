-- What is known of expressions: their parts and names, and the entries for the lines so far.
use Rattle.std.specs.Prelude.{◌≡◌, ◌+◌, ◌<◌, ◌≤◌, ◌&&◌, ◌||◌, ◌∷◌, ◌++◌, if◌then◌else◌}
use Rattle.cord_plan.proofs.Common.{ℕ, zero, suc, Bool, true, false, List, [], map, length, Option, Some, None, refl, sym, ap, ◌∙◌, subst}
use Rattle.cord_plan.proofs.Common.{arith, ⊎_elim, not, slice_get, bytes_eq, or-false, eq-or-lt_of_le, le-leb, or_right, Statement, Expr}
use Rattle.cord_plan.proofs.Common.{Exprs, cat, name, nothing, preceding, members, names, parts, assigns, has, is_this_name, read_by}
use Rattle.cord_plan.proofs.Common.{reads_at, target_of, preserves, Has, expression_in, HasFacts, IsFacts, IsChoiceOf, AreFactsOf, IsNumber}
use Rattle.cord_plan.proofs.Common.{entry_at, entry_of, is_before, reader, Numbering, All, or_assoc, length-append, parts_of, or_cases}
use Rattle.cord_plan.proofs.Common.{false_from_ne_true}
use Rattle.cord_plan.specs.Exprs.{names_of}
use Rattle.cord_plan.specs.inner.Choices.{AreChoices, IsKnown}
use Rattle.std.proofs.lemmas.List.Elements.{All-push}
use Rattle.cord_plan.specs.inner.Numbering.{names_of as all_names}
use Rattle.cord_plan.specs.declared.planner.expression_facts.Facts.{Facts}
use Rattle.cord_plan.specs.declared.planner.expression_facts.ExpressionFacts.{ExpressionFacts}
use Rattle.cord_plan.proofs.MarkedNames.{has_one}
use Rattle.cord_plan.proofs.Named.{has_at, has_both, prefix_names, same_bytes}
use Rattle.cord_plan.proofs.Nearest.{first_in}
use Rattle.cord_plan.proofs.Numbers.{number_reported}
use Rattle.cord_plan.proofs.PartSums.{parts_members, sum_append, sum_parts}
use Rattle.cord_plan.specs.Inlined as plain

-- ---- names
has_prefix : (e : Expr) (es : Exprs) (x : List ℕ) → has (names_of (preceding e es)) x ≡ (has (names e) x || has (names_of es) x)
has_prefix e es x = ap (λ (ys : List (List ℕ)). has ys x) (prefix_names e es) ∙ has_both (names e) (names_of es) x

has_then : (es : List Expr) (e : Expr) (x : List ℕ) →
    has (names (cat (members (es ++ e ∷ [])))) x ≡ (has (names (cat (members es))) x || has (names e) x)
has_then [] e x = has_prefix e nothing x ∙ or-false (has (names e) x)
has_then (d ∷ es) e x =
    has_prefix d (members (es ++ e ∷ [])) x
    ∙ (ap (λ (v : Bool). has (names d) x || v) (has_then es e x)
    ∙ (sym (or_assoc (has (names d) x) (has (names (cat (members es))) x) (has (names e) x))
    ∙ ap (λ (v : Bool). v || has (names e) x) (sym (has_prefix d (members es) x))))

-- ---- lines that read them
-- a line from a up to b reads x
abbrev IsReadIn : List Statement → ℕ → ℕ → List ℕ → Type 0
IsReadIn s a b x = (p : ℕ) × (a ≤ p) × (p < b) × (reads_at (slice_get s p) x ≡ true)

module _ (s : List Statement) where
  read_more : (x : List ℕ) (a b c d : ℕ) → c ≤ a → b ≤ d → IsReadIn s a b x → IsReadIn s c d x
  read_more x a b c d before after w = (w.0, omega (arith, before, w.1), omega (arith, after, w.2), w.3)

  -- a name that the line at a place reads
  pub name_read : (a : ℕ) (x : List ℕ) → reads_at (slice_get s a) x ≡ true → (y : List ℕ) → has (names (name x)) y ≡ true →
      IsReadIn s a (a + 1) y
  name_read a x reads y h =
      let same : y ≡ x = same_bytes y x (sym (has_one x y) ∙ h) in
      (a, omega arith, omega arith, ap (λ (z : List ℕ). reads_at (slice_get s a) z) same ∙ reads)

  -- the names of members, and of an expression after them
  pub both_read : (b : ℕ) (es : List Expr) (e : Expr) (f g : Facts) (c : ℕ) → IsFacts s b (cat (members es)) f → IsFacts s b e g →
      c ≤ f.since → c ≤ g.since → (x : List ℕ) → has (names (cat (members (es ++ e ∷ [])))) x ≡ true → IsReadIn s c b x
  both_read b es e f g c one two first second x h = ⊎_elim
      (λ k. read_more x f.since b c b first (omega arith) (one.read x k))
      (λ k. read_more x g.since b c b second (omega arith) (two.read x k))
      (or_cases (has (names (cat (members es))) x) (has (names e) x) (sym (has_then es e x) ∙ h))

  pub facts_later : (b : ℕ) (e : Expr) (f : Facts) → IsFacts s b e f → IsFacts s (b + 1) e f
  facts_later b e f facts = record {
    counted = facts.counted;
    read = λ x h. read_more x f.since b f.since (b + 1) (omega arith) (omega arith) (facts.read x h);
  }

  -- the last line that reads a name stands no earlier
  last_read : (x : List ℕ) (a b : ℕ) → IsReadIn s a b x → is_before (reader s x b) a ≡ false
  last_read x a zero w = absurd (omega (arith, w.2))
  last_read x a (suc b) w = pick (reads_at (slice_get s b) x) refl (λ lt. last_read x a b (w.0, w.1, lt, w.3))
    where
      pick : (v : Bool) → reads_at (slice_get s b) x ≡ v → (w.0 < b → is_before (reader s x b) a ≡ false) →
          is_before (if v then Some b else reader s x b) a ≡ false
      pick true e further = ap not (le-leb a b (omega (arith, w.1, w.2)))
      pick false e further = ⊎_elim (λ (same : w.0 ≡ b). let reads = w.3 in let bad : ⊥ = cc in absurd bad) (λ (lt : w.0 < b). further lt)
          (eq-or-lt_of_le (let le : w.0 ≤ b = omega (arith, w.2) in le))

  -- a line preserves these names, where what it assigns is last read before them
  all_kept : (a b : ℕ) (l : Statement) → ((x : List ℕ) → assigns l x ≡ true → is_before (reader s x b) a ≡ true) → (xs : List (List ℕ)) →
      ((x : List ℕ) → has xs x ≡ true → IsReadIn s a b x) → preserves (Some l) xs ≡ true
  all_kept a b l before [] read = refl
  all_kept a b l before (x ∷ xs) read =
      let other : assigns l x ≡ false = false_from_ne_true (assigns l x) (λ e.
      let early = before x e in
      let late = last_read x a b (read x (has_at (x ∷ xs) 0 x refl)) in
      let bad : ⊥ = cc in bad) in
      ap (λ (v : Bool). not v && preserves (Some l) xs) other
      ∙ all_kept a b l before xs (λ y h. read y (or_right (bytes_eq y x) (has xs y) h))

  target_before : (t : Numbering) (read : List (Option ℕ)) (a b : ℕ) (o : Option (List ℕ)) (n : Option ℕ) → IsNumber (all_names t) o n →
      ((x : List ℕ) → entry_of t read x ≡ reader s x b) → is_before (entry_at read n) a ≡ true → (x : List ℕ) → is_this_name o x ≡ true →
      is_before (reader s x b) a ≡ true
  target_before t read a b None n number are before x h = let bad : ⊥ = cc in absurd bad
  target_before t read a b (Some z) n number are before x h =
      ap (λ (y : List ℕ). is_before (reader s y b) a) (same_bytes x z h)
      ∙ (ap (λ (o : Option ℕ). is_before o a) (sym (ap (entry_at read) (number_reported t (Some z) n number) ∙ are z)) ∙ before)

  -- so it preserves those of an expression, by the number of its target
  pub target_kept : (t : Numbering) (read : List (Option ℕ)) (b : ℕ) (l : Statement) (n : Option ℕ) (e : Expr) (f : Facts) →
      IsNumber (all_names t) (target_of l) n → ((x : List ℕ) → entry_of t read x ≡ reader s x b) →
      is_before (entry_at read n) f.since ≡ true → IsFacts s b e f → preserves (Some l) (names e) ≡ true
  target_kept t read b l n e f number are before facts =
      all_kept f.since b l (target_before t read f.since b (target_of l) n number are before) (names e) facts.read

-- ---- parts
pub parts_then : (es : List Expr) (e : Expr) → parts (cat (members (es ++ e ∷ []))) ≡ parts (cat (members es)) + parts e
parts_then es e =
    let all : parts_of (members (es ++ e ∷ [])) ≡ sum_parts (es ++ e ∷ []) = parts_members (es ++ e ∷ []) in
    let both : sum_parts (es ++ e ∷ []) ≡ sum_parts es + (parts e + 0) = sum_append es (e ∷ []) in
    let some : parts_of (members es) ≡ sum_parts es = parts_members es in
    omega (arith, all, both, some)

-- ---- entries
before_in : (table : List (Option Expr)) (o : Option Expr) (a : ℕ) (e : Expr) → expression_in table a ≡ Some e →
    expression_in (table ++ o ∷ []) a ≡ Some e
before_in [] o a e is = let bad : ⊥ = cc in absurd bad
before_in (f ∷ table) o zero e is = is
before_in (f ∷ table) o (suc a) e is = before_in table o a e is

pub last_in : (table : List (Option Expr)) (o : Option Expr) (n : ℕ) → length table ≡ n → expression_in (table ++ o ∷ []) n ≡ o
last_in [] o zero size = refl
last_in (f ∷ table) o (suc n) size = last_in table o n (omega (arith, size))
last_in _ o _ size = let bad : ⊥ = cc in absurd bad

module _ (s : List Statement) where
  -- a line more
  pub facts_more : (b : ℕ) (table : List (Option Expr)) (o : Option Expr) (known : ExpressionFacts) → AreFactsOf s b table known →
      AreFactsOf s (b + 1) (table ++ o ∷ []) known
  facts_more b table o known are n entry is =
      let one = are n entry is in
      record {
        expression = one.expression;
        is = before_in table o entry.place one.expression one.is;
        facts = facts_later s b one.expression entry.facts one.facts;
      }

  pub known_with : (b : ℕ) (table : List (Option Expr)) (o : Option Expr) (known : ExpressionFacts) → length table ≡ b →
      AreFactsOf s (b + 1) (table ++ o ∷ []) known → IsKnown s (b + 1) (table ++ o ∷ []) known
  known_with b table o known size are = record {
    size = length-append table (o ∷ []) ∙ ap (λ (n : ℕ). n + 1) size;
    facts = are;
  }

  pub known_more : (b : ℕ) (table : List (Option Expr)) (o : Option Expr) (known : ExpressionFacts) → IsKnown s b table known →
      IsKnown s (b + 1) (table ++ o ∷ []) known
  known_more b table o known before = known_with b table o known before.size (facts_more b table o known before.facts)

  -- what is known of an expression
  pub facts_are : (b : ℕ) (o : Option Expr) (e : Expr) (f : Facts) → HasFacts s b o f → o ≡ Some e → IsFacts s b e f
  facts_are b o e f has there =
      let same : has.expression ≡ e = let one = has.is in cc in
      subst (λ (d : Expr). IsFacts s b d f) same has.facts

-- ---- choices
bare_table : (table : List (Option Expr)) → Has table (map (λ o. (o, [])) table)
bare_table [] = refl
bare_table (o ∷ table) = λ i. o ∷ bare_table table i

module _ (s : List Statement) (later : List ℕ → ℕ → Bool) (table : List (Option Expr)) (b : ℕ) (l : Statement) where
  module _ (t : plain.ChoiceTable) (tabled : Has table t) where
    module _ (x : List ℕ) (reads : reads_at (slice_get s b) x ≡ true) (before after : List Expr) where
      by_expression : (a : ℕ) (f : Option Expr) → expression_in table a ≡ f →
          IsChoiceOf s b table (plain.chosen_from s later b l x before after a f)
      by_expression a None is = reads
      by_expression a (Some e) is = by_test (plain.fits s later e a b l x && plain.is_small (plain.expr_with l (before ++ e ∷ after)))
        where
          by_test : (v : Bool) → IsChoiceOf s b table (if v then plain.replaced a e else plain.named x)
          by_test true = is
          by_test false = reads

      by_place : (o : Option ℕ) → IsChoiceOf s b table (plain.chosen_of s later t b l x before after o)
      by_place None = reads
      by_place (Some a) = by_expression a (plain.first_of (slice_get t a)) (first_in table t a tabled)

    each_chosen : (xs : List (List ℕ)) (done : List plain.Choice) →
        ((x : List ℕ) → has xs x ≡ true → reads_at (slice_get s b) x ≡ true) → All (IsChoiceOf s b table) done →
        All (IsChoiceOf s b table) (plain.choices s later t b l done xs)
    each_chosen [] done reads are = are
    each_chosen (x ∷ xs) done reads are = each_chosen xs (done ++ c ∷ []) (λ y h. reads y (or_right (bytes_eq y x) (has xs y) h))
        (All-push (IsChoiceOf s b table) done c are
        (by_place x (reads x (has_at (x ∷ xs) 0 x refl)) (map (λ d. plain.expr_of d) done) (map (λ y. name y) xs) (plain.setter s x b)))
      where
        c : plain.Choice
        c = plain.chosen_of s later t b l x (map (λ d. plain.expr_of d) done) (map (λ y. name y) xs) (plain.setter s x b)

  -- a choice is an operand itself or an expression of the table
  pub choices_from : (cs : List plain.Choice) → slice_get s b ≡ Some l → AreChoices s later b l table cs → All (IsChoiceOf s b table) cs
  choices_from cs here chosen =
      let t : plain.ChoiceTable = map (λ o. (o, [])) table in
      let reads : (x : List ℕ) → has (read_by l) x ≡ true → reads_at (slice_get s b) x ≡ true =
      λ x h. ap (λ (o : Option Statement). reads_at o x) here ∙ h in
      subst (λ (ds : List plain.Choice). All (IsChoiceOf s b table) ds) (sym (chosen t (bare_table table)))
      (each_chosen t (bare_table table) (read_by l) [] reads (λ k d lt. absurd (omega (arith, lt))))
