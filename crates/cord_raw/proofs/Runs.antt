-- A run of a row of bytes in memory, apart from the bytes around it, and put back.
use Rattle.std.proofs.Common.{◌≡◌, ℕ, ◌+◌, ◌≤◌, List, [], ◌∷◌, ◌++◌, length, take, drop, sym, ap, ◌∙◌, refl, arith, length-append}
use Rattle.std.proofs.lemmas.List.{take-append-drop, length-take-le, length-drop, take-append-le, drop-append-le}
use Rattle.std.proofs.Math.Seq.{take-append-add, take-append_seam}
use seplogic.Ra.Ura.{Ura}
use base.Logic.{ent}
use base.Fml.{Fml, Share, fsep}
use types.Logic.{Logic, sem}
use types.Kit.{‵, ◌⊛◌, ⋆, ◌$◌, ◌∵◌, !, qed, by, done, move, use1, use2, split, fsplit, fjoin, rewrite}
use denote.Builtin.{u8}
use denote.Index.{row}
use denote.RawPtr.Bytes.{bytes_cut, bytes_glue}

-- n of these bytes, from the one at i on
abbrev pub run_of : List ℕ → ℕ → ℕ → List ℕ
run_of xs i n = take n (drop i xs)

-- the bytes with others in the place of those n
abbrev pub with_run : List ℕ → ℕ → ℕ → List ℕ → List ℕ
with_run xs i n ys = take i xs ++ (ys ++ drop n (drop i xs))

pub run_length : (xs : List ℕ) (i n : ℕ) → i + n ≤ length xs → length (run_of xs i n) ≡ n
run_length xs i n inside = length-take-le n (drop i xs) (let after = length-drop i xs in omega arith)

-- a run of the first k bytes is one of them all
pub run_of_first : (xs : List ℕ) (k i n : ℕ) → i + n ≤ length (take k xs) → run_of (take k xs) i n ≡ run_of xs i n
run_of_first xs k i n inside =
    let prefix = take k xs in let back = drop k xs in let rest : n ≤ length (drop i prefix) = let after = length-drop i prefix in
    omega (arith, inside) in
    sym (ap (λ ys. run_of ys i n) (sym (take-append-drop k xs)) ∙ ap (take n) (drop-append-le i prefix back (omega (arith, inside)))
    ∙ take-append-le n (drop i prefix) back rest)

pub with_run_length : (xs : List ℕ) (i n : ℕ) (ys : List ℕ) → i + n ≤ length xs → length ys ≡ n → length (with_run xs i n ys) ≡ length xs
with_run_length xs i n ys inside long =
    let prefix = length-take-le i xs (omega (arith, inside)) in let after = length-drop n (drop i xs) in let rest = length-drop i xs in
    let all = length-append (take i xs) (ys ++ drop n (drop i xs)) in let both = length-append ys (drop n (drop i xs)) in
    omega arith

-- the first bytes up to the end of a run that was written at i
pub take_with_run : (xs : List ℕ) (i n : ℕ) (ys : List ℕ) → i + n ≤ length xs → length ys ≡ n →
    take (i + n) (with_run xs i n ys) ≡ take i xs ++ ys
take_with_run xs i n ys inside long =
    let rest = drop n (drop i xs) in let prefix : length (take i xs) ≡ i = length-take-le i xs (omega (arith, inside)) in
    ap (λ k. take (k + n) (with_run xs i n ys)) (sym prefix) ∙ take-append-add (take i xs) (ys ++ rest) n
    ∙ ap (λ k. take i xs ++ take k (ys ++ rest)) (sym long) ∙ ap (λ t. take i xs ++ t) (take-append_seam ys rest)

module _ {M : Type 1} {𝓤 : Ura M} (𝓛 : Logic 𝓤) (q : Share) (xs : List ℕ) (i n b o : ℕ) (inside : i + n ≤ length xs) where
  prefix_long : length (take i xs) ≡ i
  prefix_long = length-take-le i xs (omega (arith, inside))

  -- the bytes before the run and after it
  abbrev pub around : Fml
  around = fsep (row u8 q (take i xs) b o) (row u8 q (drop n (drop i xs)) b (i + o + n))

  pub run_out : ent 𝓤 (sem 𝓛 (row u8 q xs b o)) (⋆ 𝓛 (‵ (row u8 q (run_of xs i n) b (i + o)) ∷ ‵ around ∷ []))
  run_out =
      let prefix = take i xs in let run = run_of xs i n in let back = drop n (drop i xs) in
      let cut : xs ≡ prefix ++ (run ++ back) = sym (ap (λ t. prefix ++ t) (take-append-drop n (drop i xs)) ∙ take-append-drop i xs) in
      let start : o + length prefix ≡ i + o = let long = prefix_long in omega arith in let end : i + o + length run ≡ i + o + n =
      ap (λ k. i + o + k) (run_length xs i n inside) in
      qed 𝓛 (‵ (row u8 q xs b o) ∷ []) ∵ rewrite ! 0 (λ (ys : List ℕ). ‵ (row u8 q ys b o)) cut refl $
      use1 𝓛 (‵ (row u8 q prefix b o) ⊛ ‵ (row u8 q (run ++ back) b (o + length prefix))) (bytes_cut 𝓛 q prefix (run ++ back) b o) $ split !
      $
      move ! (1 ∷ []) $
      rewrite ! 0 (λ (k : ℕ). ‵ (row u8 q (run ++ back) b k)) start refl $
      use1 𝓛 (‵ (row u8 q run b (i + o)) ⊛ ‵ (row u8 q back b (i + o + length run))) (bytes_cut 𝓛 q run back b (i + o)) $ split ! $ move !
      (1 ∷ []) $
      rewrite ! 0 (λ (k : ℕ). ‵ (row u8 q back b k)) end refl $ move ! (2 ∷ 0 ∷ []) $ fjoin ! $ move ! (1 ∷ 0 ∷ []) $ done !

  pub run_back : (ys : List ℕ) → length ys ≡ n → ent 𝓤 (⋆ 𝓛 (‵ (row u8 q ys b (i + o)) ∷ ‵ around ∷ []))
      (sem 𝓛 (row u8 q (with_run xs i n ys) b o))
  run_back ys long =
      let prefix = take i xs in let back = drop n (drop i xs) in
      let start : i + o ≡ o + length prefix = let prefix_is = prefix_long in omega arith in let end : i + o + n ≡ i + o + length ys =
      ap (λ k. i + o + k) (sym long) in
      qed 𝓛 (‵ (row u8 q ys b (i + o)) ∷ ‵ around ∷ []) ∵ move ! (1 ∷ []) $ fsplit ! $ move ! (1 ∷ []) $ rewrite ! 0
      (λ (k : ℕ). ‵ (row u8 q back b k)) end refl $ move ! (2 ∷ 0 ∷ []) $
      use2 𝓛 (‵ (row u8 q (ys ++ back) b (i + o))) (bytes_glue 𝓛 q ys back b (i + o)) $ rewrite ! 0
      (λ (k : ℕ). ‵ (row u8 q (ys ++ back) b k)) start refl $ move ! (1 ∷ 0 ∷ []) $
      by ! (bytes_glue 𝓛 q prefix (ys ++ back) b o)
