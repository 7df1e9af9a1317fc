-- A statement that makes no cord does the same where other texts stand for the names that it doesn't read.
use Rattle.std.specs.Prelude.{◌≡◌, ◌++◌, ◌∷◌, if◌then◌else◌, ◌+ℤ◌, ◌-ℤ◌}
use Rattle.cord_plan.proofs.Common.{ℕ, ℤ, Bool, true, false, List, [], Result, Ok, Err, refl, ap, ◌∙◌, take, drop, length, FileSystem}
use Rattle.cord_plan.proofs.Common.{Number, Numeral, Named, Statement, Len, Fetch, Cmp, Ncmp, Str, Chr, Rchr, Assign, Add, Sub, EcInit}
use Rattle.cord_plan.proofs.Common.{EcPut, EcCat, EcStr, Repeat, If, Else, End, FaultKind, Overflow, State, Outcome, number_value, and_then}
use Rattle.cord_plan.proofs.Common.{as_index, as_byte, as_length, fits_i64, sets_extensible, has_number, sets_number, act, byte_of_text}
use Rattle.cord_plan.proofs.Common.{place_number, read_by, IsVerbatim}
use Rattle.cord_core.specs.Texts.{first, last, order}

-- the statements that a plan keeps as they are, but for `len`, which serves a length alone
abbrev pub IsVerbatimButLen : Statement → Type 0
IsVerbatimButLen (Len line target operand) = ⊥
IsVerbatimButLen l = IsVerbatim l

-- these names have these texts
abbrev pub Agrees : (List ℕ → List ℕ) → (List ℕ → List ℕ) → List (List ℕ) → Type 0
Agrees t u [] = Unit {0}
Agrees t u (x ∷ xs) = (t x ≡ u x) × Agrees t u xs

module _ (t : List ℕ → List ℕ) where
  -- the same with these texts
  abbrev pub over : State → State
  over s = record s { texts = t }

  abbrev pub with_texts : Outcome → Outcome
  with_texts (Ok r) = Ok (over r.0, r.1)
  with_texts (Err kind) = Err kind

  then_with : {A : Type 0} (q r : Result A FaultKind) (f g : A → Outcome) → q ≡ r → ((a : A) → f a ≡ with_texts (g a)) →
      and_then q f ≡ with_texts (and_then r g)
  then_with q (Ok a) f g e h = ap (λ (w : Result _ FaultKind). and_then w f) e ∙ h a
  then_with q (Err kind) f g e h = ap (λ (w : Result _ FaultKind). and_then w f) e

  module _ (s : State) where
    same_number : (n : Number) → number_value (over s) n ≡ number_value s n
    same_number (Numeral z) = refl
    same_number (Named x) = refl

    same_index : (n : Number) → as_index (number_value (over s) n) ≡ as_index (number_value s n)
    same_index n = ap as_index (same_number n)

    same_byte : (n : Number) → as_byte (number_value (over s) n) ≡ as_byte (number_value s n)
    same_byte n = ap as_byte (same_number n)

    number_set : (target : List ℕ) (z w : ℤ) → z ≡ w → sets_number (over s) target z ≡ with_texts (sets_number s target w)
    number_set target z w e = ap (λ (v : ℤ). sets_number (over s) target v) e ∙ pick (fits_i64 w)
      where
        pick : (v : Bool) → (if v then has_number (over s) target w else Err Overflow)
            ≡ with_texts (if v then has_number s target w else Err Overflow)
        pick true = refl
        pick false = refl

    has_same : (target : List ℕ) (z w : ℤ) → z ≡ w → has_number (over s) target z ≡ with_texts (has_number s target w)
    has_same target z w e = ap (λ (v : ℤ). has_number (over s) target v) e

    module _ (limit : ℕ) (files : FileSystem) where
      extensible_set : (name : List ℕ) (u v : List ℕ) → u ≡ v →
          sets_extensible limit (over s) name u ≡ with_texts (sets_extensible limit s name v)
      extensible_set name u v e = ap (λ (w : List ℕ). sets_extensible limit (over s) name w) e
          ∙ then_with (as_length limit (length v)) (as_length limit (length v)) _ _ refl (λ k. refl)

      pub kept_same : (l : Statement) → IsVerbatimButLen l → Agrees t s.texts (read_by l) →
          act limit files l (over s) ≡ with_texts (act limit files l s)
      kept_same (Fetch line target operand index) k a = then_with _ _ _ _ (same_index index)
          (λ i. then_with _ _ _ _ (ap (λ (x : List ℕ). byte_of_text x i) a.0) (λ b. refl))
      kept_same (Cmp line target left right) k a = has_same target _ _ (λ i. order (a.0 i) (a.1.0 i))
      kept_same (Ncmp line target left left_start right right_start count) k a =
          then_with _ _ _ _ (same_index left_start) (λ i. then_with _ _ _ _ (same_index right_start)
          (λ j. then_with _ _ _ _ (same_index count) (λ n. has_same target _ _
          (λ r. order (take n (drop i (a.0 r))) (take n (drop j (a.1.0 r)))))))
      kept_same (Str line target operand start pattern) k a = then_with _ _ _ _ (same_index start)
          (λ i. has_same target _ _ (λ r. place_number (first (a.0 r) i (a.1.0 r))))
      kept_same (Chr line target operand start byte) k a =
          then_with _ _ _ _ (same_index start) (λ i. then_with _ _ _ _ (same_byte byte)
          (λ b. then_with _ _ _ _ (ap (λ (x : List ℕ). byte_of_text x i) a.0)
          (λ _. has_same target _ _ (λ r. place_number (first (a.0 r) i (b ∷ []))))))
      kept_same (Rchr line target operand start byte) k a =
          then_with _ _ _ _ (same_index start) (λ i. then_with _ _ _ _ (same_byte byte)
          (λ b. then_with _ _ _ _ (ap (λ (x : List ℕ). byte_of_text x i) a.0)
          (λ _. has_same target _ _ (λ r. place_number (last (a.0 r) i b)))))
      kept_same (Assign line target value) k a = number_set target _ _ (same_number value)
      kept_same (Add line target left right) k a = number_set target _ _ (λ r. same_number left r +ℤ same_number right r)
      kept_same (Sub line target left right) k a = number_set target _ _ (λ r. same_number left r -ℤ same_number right r)
      kept_same (EcInit line target) k a = extensible_set target [] [] refl
      kept_same (EcPut line extensible byte) k a = then_with _ _ _ _ (same_byte byte) (λ b. extensible_set extensible _ _ refl)
      kept_same (EcCat line extensible operand) k a = extensible_set extensible _ _ (ap (λ (x : List ℕ). s.extensibles extensible ++ x) a.0)
      kept_same (EcStr line extensible text) k a = extensible_set extensible _ _ refl
      kept_same (Repeat line count) k a = refl
      kept_same (If line left relation right) k a = refl
      kept_same (Else line) k a = refl
      kept_same (End line) k a = refl
      kept_same l k a = absurd k
