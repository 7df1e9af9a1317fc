-- Texts are put one after another.
use Rattle.std.proofs.Common.{◌≡◌, ℕ, ◌+◌, ◌<◌, ◌≤◌, List, [], ◌∷◌, ◌++◌, length, refl, ◌∙◌, sym, ap, arith, append_assoc, append-nil}
use Rattle.std.proofs.Common.{length-append}
use Rattle.std.specs.List.{concat}
use Rattle.cord_io.specs.declared.TheConstants.{MAX_LEN}

-- the bytes so far and those of the texts that are left are the whole
pub record IsCatting (texts rest : List (List ℕ)) (all : List ℕ) : Type 0 where
  pub reported : all ++ concat rest ≡ concat texts
  pub short : length all ≤ MAX_LEN

-- nothing was joined yet
pub catting_start : (texts : List (List ℕ)) (all : List ℕ) → all ≡ [] → IsCatting texts texts all
catting_start texts all e = rw e (record { reported = refl; short = omega arith })

-- one more text was joined
pub catting_step : (texts : List (List ℕ)) (x : List ℕ) (rest : List (List ℕ)) (all next : List ℕ) → IsCatting texts (x ∷ rest) all →
    next ≡ all ++ x → length all + length x ≤ MAX_LEN → IsCatting texts rest next
catting_step texts x rest all next i e le = record {
  reported = ap (λ (y : List ℕ). y ++ concat rest) e ∙ append_assoc all x (concat rest) ∙ i.reported;
  short = let l : length next ≡ length (all ++ x) = ap (λ (y : List ℕ). length y) e in omega (arith, l, length-append all x, le);
}

-- one text more would be too much
pub catting_too_long : (texts : List (List ℕ)) (x : List ℕ) (rest : List (List ℕ)) (all : List ℕ) → IsCatting texts (x ∷ rest) all →
    MAX_LEN < length all + length x → MAX_LEN < length (concat texts)
catting_too_long texts x rest all i lt =
    let l : length (all ++ (x ++ concat rest)) ≡ length (concat texts) = ap (λ (y : List ℕ). length y) i.reported in
    omega (arith, l, length-append all (x ++ concat rest), length-append x (concat rest), lt)

-- no text is left
pub catting_end : (texts : List (List ℕ)) (all : List ℕ) → IsCatting texts [] all → all ≡ concat texts
catting_end texts all i = sym (append-nil all) ∙ i.reported
