-- A line does what its defining expression means.
use Rattle.std.specs.Prelude.{◌≡◌, ◌<◌, ◌∷◌, ◌++◌, if◌then◌else◌}
use Rattle.cord_plan.proofs.Common.{ℕ, Bool, true, false, List, [], length, map, take, drop, Option, Some, None, Result, Ok, Err, refl, sym}
use Rattle.cord_plan.proofs.Common.{ap, ◌∙◌, arith, append-nil, length-append, nat_le, replicate, flat_map, leb-false, lt-leb}
use Rattle.cord_plan.proofs.Common.{length-replicate, FileSystem, Statement, Chars, Nul, Cat, Catn, Catc, Substr, Put, FaultKind, TooLong}
use Rattle.cord_plan.proofs.Common.{State, number_value, and_then, as_index, as_byte, as_length, sets_text, with_value, act, Expr, name}
use Rattle.cord_plan.proofs.Common.{members, target_of, defining, within, values, text_in, gives_text, puts_text}

module _ (limit : ℕ) (s : State) where
  -- a name gets a text that is within the limit
  pub sets_within : (target text : List ℕ) → sets_text limit s target text ≡ gives_text s target (within limit text)
  sets_within target text = pick (nat_le (length text) limit)
    where
      pick : (v : Bool) → and_then {A = ℕ} (if v then Ok (length text) else Err TooLong)
          (λ _. Ok (record s { texts = with_value s.texts target text }, []))
          ≡ gives_text s target (and_then {A = ℕ} (if v then Ok (length text) else Err TooLong) (λ _. Ok text))
      pick true = refl
      pick false = refl

  sets_copies_of : (target : List ℕ) (b n : ℕ) → and_then (as_length limit n) (λ _. sets_text limit s target (replicate n b))
      ≡ gives_text s target (and_then (as_length limit n) (λ _. Ok (replicate n b)))
  sets_copies_of target b n = pick (nat_le n limit) refl
    where
      pick : (v : Bool) → nat_le n limit ≡ v → and_then {A = ℕ} (if v then Ok n else Err TooLong)
          (λ _. sets_text limit s target (replicate n b)) ≡ gives_text s target
          (and_then {A = ℕ} (if v then Ok n else Err TooLong) (λ _. Ok (replicate n b)))
      pick true e =
          let short : nat_le (length (replicate n b)) limit ≡ true = ap (λ (k : ℕ). nat_le k limit) (length-replicate n b) ∙ e in
          ap (λ (v : Bool). and_then {A = ℕ} (if v then Ok (length (replicate n b)) else Err TooLong)
          (λ _. Ok (record s { texts = with_value s.texts target (replicate n b) }, []))) short
      pick false e = refl

  run_means : (target : List ℕ) (rb rn : Result ℕ FaultKind) → and_then rb
      (λ b. and_then rn (λ n. and_then (as_length limit n) (λ _. sets_text limit s target (replicate n b))))
      ≡ gives_text s target (and_then rb (λ b. and_then rn (λ n. and_then (as_length limit n) (λ _. Ok (replicate n b)))))
  run_means target (Err kind) rn = refl
  run_means target (Ok b) (Err kind) = refl
  run_means target (Ok b) (Ok n) = sets_copies_of target b n

  part_means : (target text : List ℕ) (ri rn : Result ℕ FaultKind) →
      and_then ri (λ i. and_then rn (λ n. sets_text limit s target (take n (drop i text))))
      ≡ gives_text s target (and_then ri (λ i. and_then rn (λ n. within limit (take n (drop i text)))))
  part_means target text (Err kind) rn = refl
  part_means target text (Ok i) (Err kind) = refl
  part_means target text (Ok i) (Ok n) = sets_within target (take n (drop i text))

  -- the text of an operand and of one byte after it
  abbrev with_byte : List ℕ → Result (List ℕ) FaultKind → Result (List ℕ) FaultKind
  with_byte text byte = and_then (and_then (and_then byte (λ t. Ok (t ++ []))) (λ rest. Ok (text ++ rest))) (λ t. within limit t)

  byte_means : (target text : List ℕ) (rb : Result ℕ FaultKind) → and_then rb (λ b. sets_text limit s target (text ++ b ∷ []))
      ≡ gives_text s target (with_byte text (and_then rb (λ b. and_then (as_length limit 1) (λ _. Ok (replicate 1 b)))))
  byte_means target text (Err kind) = refl
  byte_means target text (Ok b) = pick (nat_le 1 limit) refl
    where
      pick : (v : Bool) → nat_le 1 limit ≡ v → sets_text limit s target (text ++ b ∷ [])
          ≡ gives_text s target (with_byte text (and_then {A = ℕ} (if v then Ok 1 else Err TooLong) (λ _. Ok (replicate 1 b))))
      pick true e = sets_within target (text ++ b ∷ [])
      pick false e =
          let few : limit < 1 = leb-false 1 limit e in
          let long : nat_le (length (text ++ b ∷ [])) limit ≡ false =
          lt-leb (length (text ++ b ∷ [])) limit (omega (arith, length-append text (b ∷ []))) in
          ap (λ (v : Bool). and_then {A = ℕ} (if v then Ok (length (text ++ b ∷ [])) else Err TooLong)
          (λ _. Ok (record s { texts = with_value s.texts target (text ++ b ∷ []) }, []))) long

  -- the texts of names, joined
  names_joined : (xs : List (List ℕ)) → values limit s.texts (λ n. number_value s n) (members (map (λ x. name x) xs))
      ≡ Ok (flat_map s.texts xs)
  names_joined [] = refl
  names_joined (x ∷ xs) = ap (λ (r : Result (List ℕ) FaultKind). and_then r (λ rest. Ok (s.texts x ++ rest))) (names_joined xs)

  joined_means : (target text : List ℕ) (r : Result (List ℕ) FaultKind) → r ≡ Ok text →
      sets_text limit s target text ≡ gives_text s target (and_then r (λ t. within limit t))
  joined_means target text r e = sets_within target text ∙ ap (λ (q : Result (List ℕ) FaultKind).
      gives_text s target (and_then q (λ t. within limit t))) (sym e)

  module _ (files : FileSystem) where
    -- what a line does, where it has an expression and perhaps a target
    abbrev pub Means : Statement → Option Expr → Option (List ℕ) → Type 0
    Means l None target = Unit {0}
    Means l (Some e) None = act limit files l s ≡ puts_text s (text_in limit s e)
    Means l (Some e) (Some target) = act limit files l s ≡ gives_text s target (text_in limit s e)

    pub defining_means : (l : Statement) → Means l (defining l) (target_of l)
    defining_means (Cat line target left right) = joined_means target (s.texts left ++ s.texts right) _
        (ap (λ (t : List ℕ). Ok (s.texts left ++ t)) (append-nil (s.texts right)))
    defining_means (Catn line target many) = joined_means target (flat_map s.texts many) _ (names_joined many)
    defining_means (Catc line target operand byte) = byte_means target (s.texts operand) (as_byte (number_value s byte))
    defining_means (Chars line target byte n) = run_means target (as_byte (number_value s byte)) (as_index (number_value s n))
    defining_means (Nul line target n) = run_means target (Ok 0) (as_index (number_value s n))
    defining_means (Substr line target operand start n) = part_means target (s.texts operand) (as_index (number_value s start))
        (as_index (number_value s n))
    defining_means (Put line operand) = refl
    defining_means l = tt
