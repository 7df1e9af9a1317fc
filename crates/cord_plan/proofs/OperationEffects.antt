-- What an operation does beside what its statement does, where texts, numbers and lengths are those of the script.
use Rattle.std.specs.Prelude.{◌≡◌, ◌∷◌}
use Rattle.cord_plan.proofs.Common.{ℕ, pos, Bool, true, List, [], length, Option, Some, Result, Ok, Err, refl, sym, ap, ◌∙◌, subst}
use Rattle.cord_plan.proofs.Common.{FileSystem, Statement, Len, Put, FaultKind, State, Outcome, and_then, with_value, act, Agree, read_by}
use Rattle.cord_plan.proofs.Common.{Made, Build, Measure, Write, Keep, Expr, length_of, text_in, gives_text, Text, Long, Holding}
use Rattle.cord_plan.proofs.Common.{held_length, plain, gets, all_texts, cords, texts_to_build, texts_to_measure, made_text, made_length}
use Rattle.cord_plan.proofs.Common.{builds, measures, keeps, does, if_all}
use Rattle.cord_plan.proofs.Keeps.{IsVerbatimButLen, Agrees, with_texts, kept_same}

module _ (limit : ℕ) (files : FileSystem) (Related : State → Option Holding → Type 0) (s : State) (h : Holding) where
  module _ (z : List ℕ) (line : ℕ) (made : Made) (r : Result (List ℕ) FaultKind) where
    -- the script's state after the name got a text
    abbrev after : List ℕ → State
    after t = record s { texts = with_value s.texts z t }

    -- what is built is the text of the statement
    pub built_agrees : all_texts h (texts_to_build made) ≡ true → made_text limit files made (plain h) ≡ r →
        ((t : List ℕ) → r ≡ Ok t → Related (after t) (Some (gets h z (Text t))))
        → Agree Related (gives_text s z r) (does limit files (Build line z made) h)
    built_agrees there same related =
        subst (λ (v : Bool). Agree Related (gives_text s z r) (if_all v (builds h z (made_text limit files made (plain h))))) (sym there)
        (subst (λ (w : Result (List ℕ) FaultKind). Agree Related (gives_text s z r) (builds h z w)) (sym same) (pick r refl))
      where
        pick : (w : Result (List ℕ) FaultKind) → r ≡ w → Agree Related (gives_text s z w) (builds h z w)
        pick (Ok t) e = (refl, related t e)
        pick (Err kind) e = refl

    -- what is computed is its length
    pub measured_agrees : all_texts h (texts_to_measure made) ≡ true → made_length limit files made h ≡ length_of r →
        ((t : List ℕ) → r ≡ Ok t → Related (after t) (Some (gets h z (Long (length t)))))
        → Agree Related (gives_text s z r) (does limit files (Measure line z made) h)
    measured_agrees there same related =
        subst (λ (v : Bool). Agree Related (gives_text s z r) (if_all v (measures h z (made_length limit files made h)))) (sym there)
        (subst (λ (w : Result ℕ FaultKind). Agree Related (gives_text s z r) (measures h z w)) (sym same) (pick r refl))
      where
        pick : (w : Result (List ℕ) FaultKind) → r ≡ w → Agree Related (gives_text s z w) (measures h z (length_of w))
        pick (Ok t) e = (refl, related t e)
        pick (Err kind) e = refl

  -- what is put is the text of the operand
  pub put_agrees : (line : ℕ) (x : List ℕ) (e : Expr) → all_texts h (cords e) ≡ true → text_in limit (plain h) e ≡ Ok (s.texts x) →
      Related s (Some h)
      → Agree Related (act limit files (Put line x) s) (does limit files (Write line e) h)
  put_agrees line x e there same related =
      subst (λ (v : Bool). Agree Related (Ok (s, s.texts x)) (if_all v (and_then (text_in limit (plain h) e) (λ t. Ok (Some h, t)))))
      (sym there)
      (subst (λ (w : Result (List ℕ) FaultKind). Agree Related (Ok (s, s.texts x)) (and_then w (λ t. Ok (Some h, t)))) (sym same)
      (refl, related))

  -- the numbers and extensible cords of a state, with what the cords hold here
  abbrev pub with_others : State → Holding
  with_others u = record h { numbers = u.numbers; extensibles = u.extensibles }

  module _ (l : Statement) (numbers : h.numbers ≡ s.numbers) (extensibles : h.extensibles ≡ s.extensibles)
      (related : (u : State) (puts : List ℕ) → act limit files l s ≡ Ok (u, puts) → u.texts ≡ s.texts →
      Related u (Some (with_others u))) where
    -- the outcome of a statement that makes no cord, by the outcome over plain texts
    outcome_agrees : (r : Outcome) → act limit files l s ≡ r → r ≡ with_texts s.texts r →
        Agree Related r (and_then (with_texts (plain h).texts r) (λ r. Ok (Some (with_others r.0), r.1)))
    outcome_agrees (Ok r) is e = (refl, related r.0 r.1 is (texts_of r.0 e))
      where
        texts_in : Outcome → List ℕ → List ℕ
        texts_in (Ok w) = w.0.texts
        texts_in (Err kind) = s.texts

        texts_of : (u : State) → Ok (r.0, r.1) ≡ with_texts s.texts (Ok (r.0, r.1)) → r.0.texts ≡ s.texts
        texts_of u q = ap texts_in q
    outcome_agrees (Err kind) is e = refl

    all_same : (t : List ℕ → List ℕ) (xs : List (List ℕ)) → Agrees t t xs
    all_same t [] = tt
    all_same t (x ∷ xs) = (refl, all_same t xs)

    -- a statement that makes no cord, where the texts that it reads are there
    pub kept_agrees : IsVerbatimButLen l → all_texts h (read_by l) ≡ true → Agrees (plain h).texts s.texts (read_by l) →
        Agree Related (act limit files l s) (keeps limit files l h)
    kept_agrees k there same =
        let is_plain : plain h ≡ record s { texts = (plain h).texts } =
        λ i. record { texts = (plain h).texts; numbers = numbers i; extensibles = extensibles i } in
        let does_same : act limit files l (plain h) ≡ with_texts (plain h).texts (act limit files l s) =
        ap (λ (u : State). act limit files l u) is_plain ∙ kept_same (plain h).texts s limit files l k same in
        let one : Agree Related (act limit files l s)
        (and_then (with_texts (plain h).texts (act limit files l s)) (λ r. Ok (Some (with_others r.0), r.1))) =
        outcome_agrees (act limit files l s) refl (kept_same s.texts s limit files l k (all_same s.texts (read_by l))) in
        let two : Agree Related (act limit files l s) (and_then (act limit files l (plain h)) (λ r. Ok (Some (with_others r.0), r.1))) =
        subst (λ (w : Outcome). Agree Related (act limit files l s) (and_then w (λ r. Ok (Some (with_others r.0), r.1))))
        (sym does_same) one in
        by_kept l k (subst (λ (v : Bool). Agree Related (act limit files l s)
        (if_all v (and_then (act limit files l (plain h)) (λ r. Ok (Some (with_others r.0), r.1))))) (sym there) two)
      where
        by_kept : (l : Statement) → IsVerbatimButLen l → Agree Related (act limit files l s)
            (if_all (all_texts h (read_by l)) (and_then (act limit files l (plain h)) (λ r. Ok (Some (with_others r.0), r.1)))) →
            Agree Related (act limit files l s) (keeps limit files l h)
        by_kept (Len line target operand) k g = absurd k
        by_kept l k g = g

  -- what `len` tells is the length
  pub len_agrees : (line : ℕ) (target x : List ℕ) → h.numbers ≡ s.numbers → h.extensibles ≡ s.extensibles
      → ((u : State) (puts : List ℕ) → act limit files (Len line target x) s ≡ Ok (u, puts) → u.texts ≡ s.texts →
      Related u (Some (with_others u)))
      → held_length (h.held x) ≡ length (s.texts x) → Agree Related (act limit files (Len line target x) s)
      (does limit files (Keep (Len line target x)) h)
  len_agrees line target x numbers extensibles related e =
      let u : State = record s { numbers = with_value s.numbers target (pos (length (s.texts x))) } in
      let same : with_others u ≡ record h { numbers = with_value h.numbers target (pos (held_length (h.held x))) } =
      λ i. record h { numbers = with_value (sym numbers i) target (pos (sym e i)); extensibles = sym extensibles i } in
      (refl, subst (λ (k : Holding). Related u (Some k)) same (related u [] refl refl))
