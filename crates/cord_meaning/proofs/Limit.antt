-- A greater limit changes nothing but where a text is too long for the smaller one.
use Rattle.std.specs.Prelude.{◌≡◌, ◌≤◌, ◌⊎◌, ◌++◌, ◌∷◌, if◌then◌else◌}
use Rattle.cord_meaning.proofs.Common.{ℕ, zero, suc, ℤ, Bool, true, false, List, [], Option, Some, None, Result, Ok, Err, refl, sym, ap}
use Rattle.cord_meaning.proofs.Common.{subst, inl, inr, ⊎_elim, arith, length, slice_get, unwrap_or, nat_le, take, drop, replicate}
use Rattle.cord_meaning.proofs.Common.{flat_map, le-leb, leb-true, FileSystem, Statement, Done, Fault, FaultKind, TooLong, Shape, Straight}
use Rattle.cord_meaning.proofs.Common.{Config, acted, if_running, runs_shape, runs, step, enough, State, Outcome, number_value, and_then}
use Rattle.cord_meaning.proofs.Common.{as_index, as_byte, as_length, sets_text, sets_extensible, start_state, rules, act, line_of, shape_of}
use Rattle.cord_meaning.proofs.Common.{function_text, file_text, sets_copies, run_within, end_within, trace_within}
use Rattle.cord_syntax.specs.declared.statements.Statement.TheVariants.{Let, File, Eager, Lazy, Chars, Nul, FromFn, Cat, Catn, Catc, Substr}
use Rattle.cord_syntax.specs.declared.statements.Statement.TheVariants.{Balance, EcToCord, Sprintf, EcInit, EcPut, EcCat, EcStr}
use Rattle.cord_meaning.specs.Machine.{whole}
use Rattle.cord_meaning.specs.Formats.{format_text}

module _ {B : Type 0} where
  -- the first is too long, or both are the same
  abbrev Agree : Result B FaultKind → Result B FaultKind → Type 0
  Agree r q = (r ≡ Err TooLong) ⊎ (r ≡ q)

  then_agrees : {A : Type 0} (r : Result A FaultKind) (f g : A → Result B FaultKind) → ((a : A) → Agree (f a) (g a)) →
      Agree (and_then r f) (and_then r g)
  then_agrees (Ok a) f g h = h a
  then_agrees (Err kind) f g h = inr refl

  length_agrees : (l m : ℕ) → l ≤ m → (n : ℕ) (f g : ℕ → Result B FaultKind) → ((k : ℕ) → Agree (f k) (g k)) →
      Agree (and_then (as_length l n) f) (and_then (as_length m n) g)
  length_agrees l m le n f g h = pick (nat_le n l) refl
    where
      pick : (v : Bool) → nat_le n l ≡ v → Agree (and_then (if v then Ok n else Err TooLong) f) (and_then (as_length m n) g)
      pick true e =
          let short : n ≤ l = leb-true n l e in
          subst (λ (w : Bool). Agree (f n) (and_then (if w then Ok n else Err TooLong) g)) (sym (le-leb n m (omega arith))) (h n)
      pick false e = inl refl

module _ (l m : ℕ) (le : l ≤ m) (files : FileSystem) where
  text_agrees : (s : State) (name text : List ℕ) → Agree (sets_text l s name text) (sets_text m s name text)
  text_agrees s name text = length_agrees l m le (length text) _ _ (λ k. inr refl)

  extensible_agrees : (s : State) (name text : List ℕ) → Agree (sets_extensible l s name text) (sets_extensible m s name text)
  extensible_agrees s name text = length_agrees l m le (length text) _ _ (λ k. inr refl)

  file_agrees : (s : State) (target path : List ℕ) → Agree (and_then (file_text files path) (λ text. sets_text l s target text))
      (and_then (file_text files path) (λ text. sets_text m s target text))
  file_agrees s target path = then_agrees (file_text files path) _ _ (λ text. text_agrees s target text)

  copies_agree : (s : State) (target : List ℕ) (byte : ℕ) (count : ℤ) →
      Agree (sets_copies l files s target byte count) (sets_copies m files s target byte count)
  copies_agree s target byte count = then_agrees (as_index count) _ _
      (λ n. length_agrees l m le n _ _ (λ k. text_agrees s target (replicate n byte)))

  act_agrees : (x : Statement) (s : State) → Agree (act l files x s) (act m files x s)
  act_agrees (Let line target text) s = text_agrees s target text
  act_agrees (File line target path) s = file_agrees s target path
  act_agrees (Eager line target path) s = file_agrees s target path
  act_agrees (Lazy line target path) s = file_agrees s target path
  act_agrees (Chars line target byte count) s = then_agrees (as_byte (number_value s byte)) _ _
      (λ b. copies_agree s target b (number_value s count))
  act_agrees (Nul line target count) s = copies_agree s target 0 (number_value s count)
  act_agrees (FromFn line target function count) s = then_agrees (as_index (number_value s count)) _ _
      (λ n. length_agrees l m le n _ _ (λ k. text_agrees s target (function_text function n)))
  act_agrees (Cat line target left right) s = text_agrees s target (s.texts left ++ s.texts right)
  act_agrees (Catn line target parts) s = text_agrees s target (flat_map s.texts parts)
  act_agrees (Catc line target operand byte) s = then_agrees (as_byte (number_value s byte)) _ _
      (λ b. text_agrees s target (s.texts operand ++ b ∷ []))
  act_agrees (Substr line target operand start count) s = then_agrees (as_index (number_value s start)) _ _
      (λ i. then_agrees (as_index (number_value s count)) _ _ (λ n. text_agrees s target (take n (drop i (s.texts operand)))))
  act_agrees (Balance line target operand) s = text_agrees s target (s.texts operand)
  act_agrees (EcToCord line target extensible) s = text_agrees s target (s.extensibles extensible)
  act_agrees (Sprintf line target text format arguments) s = then_agrees (format_text s format arguments) _ _ (λ t. text_agrees s target t)
  act_agrees (EcInit line target) s = extensible_agrees s target []
  act_agrees (EcPut line extensible byte) s = then_agrees (as_byte (number_value s byte)) _ _
      (λ b. extensible_agrees s extensible (s.extensibles extensible ++ b ∷ []))
  act_agrees (EcCat line extensible operand) s = extensible_agrees s extensible (s.extensibles extensible ++ s.texts operand)
  act_agrees (EcStr line extensible text) s = extensible_agrees s extensible (s.extensibles extensible ++ text)
  act_agrees _ s = inr refl

  -- the run with the smaller limit has met a text that is too long for it
  abbrev WasTooLong : Config State → Type 0
  WasTooLong c = (line : ℕ) × (c.ended ≡ Some (Fault line TooLong))

  abbrev Same : Config State → Config State → Type 0
  Same c d = WasTooLong c ⊎ (c ≡ d)

  module _ (most : ℕ) (statements : List Statement) where
    acted_agrees : (c : Config State) (line : ℕ) (r q : Outcome) → Agree r q → Same (acted c line r) (acted c line q)
    acted_agrees c line r q (inl e) = inl (line, ap (λ (x : Outcome). (acted c line x).ended) e)
    acted_agrees c line r q (inr e) = inr (ap (λ (x : Outcome). acted c line x) e)

    shape_agrees : (c : Config State) (x : Statement) (shape : Shape) →
        Same (runs_shape (rules l files) most statements c x shape) (runs_shape (rules m files) most statements c x shape)
    shape_agrees c x Straight = acted_agrees c (line_of x) (act l files x c.state) (act m files x c.state) (act_agrees x c.state)
    shape_agrees c x _ = inr refl

    runs_agree : (c : Config State) (o : Option Statement) → Same (runs (rules l files) most statements c o)
        (runs (rules m files) most statements c o)
    runs_agree c None = inr refl
    runs_agree c (Some x) = shape_agrees c x (shape_of x)

    step_agrees : (c : Config State) → Same (step (rules l files) most statements c) (step (rules m files) most statements c)
    step_agrees c = by_end c.ended
      where
        by_end : (o : Option Rattle.cord_meaning.specs.declared.ends.End.End) →
            Same (if_running o c (runs (rules l files) most statements c (slice_get statements c.place)))
            (if_running o c (runs (rules m files) most statements c (slice_get statements c.place)))
        by_end None = runs_agree c (slice_get statements c.place)
        by_end (Some e) = inr refl

    too_long_stays : (c : Config State) → WasTooLong c → WasTooLong (step (rules l files) most statements c)
    too_long_stays c h = (
      h.0,
      subst (λ (o : Option Rattle.cord_meaning.specs.declared.ends.End.End).
          (if_running o c (runs (rules l files) most statements c (slice_get statements c.place))).ended ≡ Some (Fault h.0 TooLong))
          (sym h.1) h.1,
    )

    after_agrees : (k : ℕ) → Same (run_within l most statements files k) (run_within m most statements files k)
    after_agrees zero = inr refl
    after_agrees (suc k) = ⊎_elim
        (λ h. inl (too_long_stays (run_within l most statements files k) h))
        (λ e. subst (λ (d : Config State). Same (step (rules l files) most statements (run_within l most statements files k))
        (step (rules m files) most statements d)) e (step_agrees (run_within l most statements files k)))
        (after_agrees k)

    whole_agrees : Same (whole (rules l files) most statements start_state) (whole (rules m files) most statements start_state)
    unfolding whole
    whole_agrees = after_agrees (enough most statements)

    module _ (none : (line : ℕ) → end_within l most statements files ≡ Fault line TooLong → ⊥) where
      whole_same : whole (rules l files) most statements start_state ≡ whole (rules m files) most statements start_state
      whole_same = ⊎_elim (λ h.
          absurd (none h.0 (ap (λ (o : Option Rattle.cord_meaning.specs.declared.ends.End.End). unwrap_or o Done) h.1)))
          (λ e. e) whole_agrees

      -- with a greater limit the run has the same events
      pub traces_agree : trace_within m most statements files ≡ trace_within l most statements files
      traces_agree = ap (λ (c : Config State). c.seen) (sym whole_same)

      -- and the same end
      pub end_agrees : end_within m most statements files ≡ end_within l most statements files
      end_agrees = ap (λ (c : Config State). unwrap_or c.ended Done) (sym whole_same)
