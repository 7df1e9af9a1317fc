-- The trivial plan is never stuck and does what the script does: each name of a cord holds its text.
use Rattle.std.specs.Prelude.{◌≡◌, ◌+◌, ◌∷◌, if◌then◌else◌}
use Rattle.cord_plan.proofs.Common.{ℕ, zero, suc, Bool, true, false, List, [], map, Option, Some, None, Result, refl, sym, ap, subst}
use Rattle.cord_plan.proofs.Common.{slice_get, bytes_eq, FileSystem, Statement, Let, File, Eager, Lazy, Chars, Nul, FromFn, Cat}
use Rattle.cord_plan.proofs.Common.{Catn, Catc, Substr, Balance, EcToCord, Sprintf, Len, Put, FaultKind, State, with_value, act, shape_of}
use Rattle.cord_plan.proofs.Common.{line_of, file_text, Agree, Simulates, name, defining, read_by, Made, Joined}
use Rattle.cord_plan.proofs.Common.{Literal, OfFile, OfEager, OfLazy, OfFunction, Balanced, OfExtensible, Printed, Operation, Build, Keep}
use Rattle.cord_plan.proofs.Common.{operation, or_nothing, trivial, text_in, gives_text, format_text, Text, Holding, plain, gets, all_texts}
use Rattle.cord_plan.proofs.Common.{texts_to_build, made_text, does, operation_shape, operation_line, plan_rules}
use Rattle.cord_meaning.specs.Statements.{rules}
use Rattle.cord_plan.proofs.Keeps.{IsVerbatimButLen, Agrees}
use Rattle.cord_plan.proofs.Evaluation.{gives_after, function_gives}
use Rattle.cord_plan.proofs.DefiningExpressions.{defining_means, sets_within}
use Rattle.cord_plan.proofs.OperationEffects.{built_agrees, put_agrees, len_agrees, kept_agrees}
use Rattle.cord_plan.proofs.Controls.{all_alike}

-- what a plan holds where each name of a cord holds the script's text
abbrev full : State → Holding
full s = record { held = λ x. Text (s.texts x); numbers = s.numbers; extensibles = s.extensibles }

-- a plan that holds the texts of the script, and isn't stuck
abbrev pub Same : ℕ → State → Option Holding → Type 0
Same p s None = ⊥
Same p s (Some h) = h ≡ full s

full_texts : (s : State) (xs : List (List ℕ)) → all_texts (full s) xs ≡ true
full_texts s [] = refl
full_texts s (x ∷ xs) = full_texts s xs

full_same : (s : State) (xs : List (List ℕ)) → Agrees (plain (full s)).texts s.texts xs
full_same s [] = tt
full_same s (x ∷ xs) = (refl, full_same s xs)

-- a name that gets a text
full_gets : (s : State) (z t : List ℕ) → gets (full s) z (Text t) ≡ full (record s { texts = with_value s.texts z t })
full_gets s z t = λ i. record { held = λ y. pick y (bytes_eq y z) i; numbers = s.numbers; extensibles = s.extensibles }
  where
    pick : (y : List ℕ) (v : Bool) → (if v then Text t else Text (s.texts y)) ≡ Text (if v then t else s.texts y)
    pick y true = refl
    pick y false = refl

full_others : (s u : State) → u.texts ≡ s.texts → record (full s) { numbers = u.numbers; extensibles = u.extensibles } ≡ full u
full_others s u e = λ i. record { held = λ x. Text (sym e i x); numbers = u.numbers; extensibles = u.extensibles }

module _ (limit : ℕ) (files : FileSystem) (p : ℕ) (s : State) where
  -- an operation that builds what its statement makes
  makes : (l : Statement) (line : ℕ) (z : List ℕ) (made : Made) → act limit files l s ≡ gives_text s z (made_text limit files made s) →
      Agree (Same p) (act limit files l s) (does limit files (Build line z made) (full s))
  makes l line z made e =
      subst (λ (r : Result (State × List ℕ) FaultKind). Agree (Same p) r (does limit files (Build line z made) (full s))) (sym e)
      (built_agrees limit files (Same p) s (full s) z line made (made_text limit files made s) (full_texts s (texts_to_build made)) refl
      (λ t _. full_gets s z t))

  joins : (l : Statement) (line : ℕ) (z : List ℕ) → act limit files l s ≡ gives_text s z (text_in limit s (or_nothing (defining l))) →
      Agree (Same p) (act limit files l s) (does limit files (Build line z (Joined (or_nothing (defining l)))) (full s))
  joins l line z means = makes l line z (Joined (or_nothing (defining l))) means

  keeps_on : (l : Statement) → IsVerbatimButLen l → Agree (Same p) (act limit files l s) (does limit files (Keep l) (full s))
  keeps_on l k = kept_agrees limit files (Same p) s (full s) l refl refl (λ u puts is e. full_others s u e) k (full_texts s (read_by l))
      (full_same s (read_by l))

  trivial_agrees : (l : Statement) → Agree (Same p) (act limit files l s)
      (does limit files (operation l (or_nothing (defining l)) false false) (full s))
  trivial_agrees (Let line z text) = makes (Let line z text) line z (Literal text) (sets_within limit s z text)
  trivial_agrees (File line z path) = makes (File line z path) line z (OfFile path) (gives_after limit s z (file_text files path))
  trivial_agrees (Eager line z path) = makes (Eager line z path) line z (OfEager path) (gives_after limit s z (file_text files path))
  trivial_agrees (Lazy line z path) = makes (Lazy line z path) line z (OfLazy path) (gives_after limit s z (file_text files path))
  trivial_agrees (Chars line z byte n) = joins (Chars line z byte n) line z (defining_means limit s files (Chars line z byte n))
  trivial_agrees (Nul line z n) = joins (Nul line z n) line z (defining_means limit s files (Nul line z n))
  trivial_agrees (FromFn line z function n) =
      makes (FromFn line z function n) line z (OfFunction function n) (function_gives limit s z files line function n)
  trivial_agrees (Cat line z x y) = joins (Cat line z x y) line z (defining_means limit s files (Cat line z x y))
  trivial_agrees (Catn line z xs) = joins (Catn line z xs) line z (defining_means limit s files (Catn line z xs))
  trivial_agrees (Catc line z x byte) = joins (Catc line z x byte) line z (defining_means limit s files (Catc line z x byte))
  trivial_agrees (Substr line z x i n) = joins (Substr line z x i n) line z (defining_means limit s files (Substr line z x i n))
  trivial_agrees (Balance line z x) = makes (Balance line z x) line z (Balanced x) (sets_within limit s z (s.texts x))
  trivial_agrees (EcToCord line z x) = makes (EcToCord line z x) line z (OfExtensible x) (sets_within limit s z (s.extensibles x))
  trivial_agrees (Sprintf line z text format args) =
      makes (Sprintf line z text format args) line z (Printed text format args) (gives_after limit s z (format_text s format args))
  trivial_agrees (Len line z x) = len_agrees limit files (Same p) s (full s) line z x refl refl (λ u puts is e. full_others s u e) refl
  trivial_agrees (Put line operand) = put_agrees limit files (Same p) s (full s) line operand (name operand) refl refl refl
  trivial_agrees l = keeps_on l tt

-- the operation of the trivial plan at a place
trivial_at : (s : List Statement) (p : ℕ) (l : Statement) (o : Operation) → slice_get s p ≡ Some l → slice_get (trivial s) p ≡ Some o →
    operation l (or_nothing (defining l)) false false ≡ o
trivial_at [] p l o e f = let bad : ⊥ = cc in absurd bad
trivial_at (k ∷ s) zero l o e f = let same : k ≡ l = cc in
    subst (λ (w : Statement). operation w (or_nothing (defining w)) false false ≡ o) same cc
trivial_at (k ∷ s) (suc p) l o e f = trivial_at s p l o e f

trivial_shapes : (s : List Statement) → map shape_of s ≡ map operation_shape (trivial s)
trivial_shapes [] = refl
trivial_shapes (l ∷ s) = λ i. sym (all_alike l (or_nothing (defining l)) false false).shape i ∷ trivial_shapes s i

trivial_lines : (s : List Statement) → map line_of s ≡ map operation_line (trivial s)
trivial_lines [] = refl
trivial_lines (l ∷ s) = λ i. sym (all_alike l (or_nothing (defining l)) false false).line i ∷ trivial_lines s i

module _ (limit : ℕ) (files : FileSystem) (statements : List Statement) where
  counts : (p : ℕ) (l : Statement) (o : Operation) → slice_get statements p ≡ Some l → slice_get (trivial statements) p ≡ Some o →
      (s : State) (t : Option Holding) → Same p s t → (rules limit files).count l s ≡ (plan_rules limit files).count o t
  counts p l o e f s None same = absurd same
  counts p l o e f s (Some h) same = subst (λ (w : Operation). (rules limit files).count l s ≡ (plan_rules limit files).count w (Some h))
      (trivial_at statements p l o e f) ((all_alike l (or_nothing (defining l)) false false).count h s
      (ap (λ (k : Holding). k.numbers) same))

  compare : (p : ℕ) (l : Statement) (o : Operation) → slice_get statements p ≡ Some l → slice_get (trivial statements) p ≡ Some o →
      (s : State) (t : Option Holding) → Same p s t → (rules limit files).holds l s ≡ (plan_rules limit files).holds o t
  compare p l o e f s None same = absurd same
  compare p l o e f s (Some h) same = subst (λ (w : Operation). (rules limit files).holds l s ≡ (plan_rules limit files).holds w (Some h))
      (trivial_at statements p l o e f) ((all_alike l (or_nothing (defining l)) false false).holds h s
      (ap (λ (k : Holding). k.numbers) same))

  acts : (p : ℕ) (l : Statement) (o : Operation) → slice_get statements p ≡ Some l → slice_get (trivial statements) p ≡ Some o →
      (s : State) (t : Option Holding) → Same p s t → Agree (Same (p + 1)) ((rules limit files).act p l s)
      ((plan_rules limit files).act p o t)
  acts p l o e f s None same = absurd same
  acts p l o e f s (Some h) same =
      subst (λ (w : Operation). Agree (Same (p + 1)) (act limit files l s) (does limit files w h)) (trivial_at statements p l o e f)
      (subst (λ (k : Holding). Agree (Same (p + 1)) (act limit files l s)
      (does limit files (operation l (or_nothing (defining l)) false false) k)) (sym same) (trivial_agrees limit files (p + 1) s l))

  pub trivial_simulates : Simulates (rules limit files) (plan_rules limit files) statements (trivial statements) Same
  trivial_simulates = record {
    shapes = trivial_shapes statements;
    lines = trivial_lines statements;
    counts = λ p l o e f loop s t same. counts p l o e f s t same;
    compares = λ p l o e f branch s t same. compare p l o e f s t same;
    moves = λ p q x at control next s t same. moves p q s t same;
    acts = λ p l o e f simple s t same. acts p l o e f s t same;
  }
    where
      moves : (p q : ℕ) (s : State) (t : Option Holding) → Same p s t → Same q s t
      moves p q s None same = same
      moves p q s (Some h) same = same
