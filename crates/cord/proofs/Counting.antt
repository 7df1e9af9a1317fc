-- Where a byte stands that has some of its kind before it.
use Rattle.std.proofs.Common.{◌≡◌, ℕ, zero, suc, ◌+◌, ◌*◌, ◌<◌, ◌-◌, Bool, true, false, cond, Some, None, List, ◌∷◌, length, take, replicate, get_or, ap, sym, ◌∙◌, refl, arith}
use Rattle.std.specs.Prelude.{◌==◌, slice_get, slice_index}
use Rattle.std.specs.List.{count_by}
use Rattle.std.proofs.lemmas.Bool.Decides.{nat_tests}
use Rattle.std.proofs.lemmas.List.{get_or-replicate, take-replicate, length-replicate}
use Rattle.std.proofs.lemmas.List.Folds.{sum_by-replicate}
use Rattle.std.proofs.lemmas.List.Sums.{count_by_more_no, count_by_more_yes}
use Rattle.std.proofs.lemmas.Option.{slice_get-get_or}
use Rattle.memchr.specs.Find.{places_from, places}
use Rattle.memchr.proofs.lemmas.CallerLemmas.{length-places}
use Rattle.cord.specs.inner.Counts.{IsNth}

module _ (x : List ℕ) (byte : ℕ) where
  abbrev pub is : ℕ → Bool
  is own = own == byte

  -- the place k of those from i on
  nth_from : (i n k q c : ℕ) → i + n ≡ length x → count_by is (take i x) ≡ c → slice_get (places_from is x i n) k ≡ Some q → IsNth x byte (c + k) q
  unfolding places_from
  nth_from i zero k q c all had e = cc
  nth_from i (suc n) k q c all had e = step (is (slice_index x i)) refl k (λ j d. nth_from (i + 1) n j q d (omega (arith, all))) e
    where
      inside : i < length x
      inside = omega (arith, all)

      step : (hit : Bool) → is (slice_index x i) ≡ hit → (k : ℕ)
          → ((j d : ℕ) → count_by is (take (i + 1) x) ≡ d → slice_get (places_from is x (i + 1) n) j ≡ Some q → IsNth x byte (d + j) q)
          → slice_get (places_from is x i (suc n)) k ≡ Some q → IsNth x byte (c + k) q
      step true h zero later e =
          let found : slice_get (i ∷ places_from is x (i + 1) n) 0 ≡ Some q = rw h at e in
          let same : i ≡ q = cc in
          let own : slice_index x i ≡ byte = grind (arith, nat_tests) in
          let count : count_by is (take i x) ≡ c + 0 = omega (arith, had) in
          rw (sym same) (record {
            inside = inside;
            here = slice_get-get_or x i 0 inside ∙ ap (λ (b : ℕ). Some b) own;
            before = count;
          })
      step true h (suc k) later e =
          let more : count_by is (take (i + 1) x) ≡ c + 1 = count_by_more_yes is x i 0 inside h ∙ ap (λ (m : ℕ). m + 1) had in
          let one : c + 1 + k ≡ c + suc k = omega arith in
          rw (sym one) (later k (c + 1) more (rw h at e))
      step false h k later e =
          let same : count_by is (take (i + 1) x) ≡ c = count_by_more_no is x i 0 inside h ∙ had in
          later k c same (rw h at e)

  pub nth_place : (k q : ℕ) → slice_get (places is x) k ≡ Some q → IsNth x byte k q
  nth_place k q e =
      let zero : 0 + k ≡ k = omega arith in
      rw zero at (nth_from 0 (length x - 0) k q 0 (omega arith) refl e)

  -- there is one where there are more
  pub no_nth : (k : ℕ) → k < count_by is x → slice_get (places is x) k ≡ None → ⊥
  no_nth k lt e =
      let there : slice_get (places is x) k ≡ Some (get_or (places is x) k 0) =
      slice_get-get_or (places is x) k 0 (omega (arith, lt, length-places is x)) in
      cc

-- the same of one byte, so many times
pub nth_of_run : (own count byte n : ℕ) → n < count_by (λ c. c == byte) (replicate count own) → IsNth (replicate count own) byte n n
nth_of_run own count byte n lt = step (own == byte) refl
  where
    all : count_by (λ c. c == byte) (replicate count own) ≡ count * cond (own == byte) 1 0
    all = sum_by-replicate (λ c. cond (c == byte) 1 0) count own

    step : (hit : Bool) → (own == byte) ≡ hit → IsNth (replicate count own) byte n n
    step true h =
        let total : count * cond (own == byte) 1 0 ≡ count = rw h (omega arith) in
        let less : n < count = omega (arith, lt, all, total) in
        let same : own ≡ byte = grind (arith, nat_tests) in
        record {
          inside = omega (arith, less, length-replicate count own);
          here = slice_get-get_or (replicate count own) n 0 (omega (arith, less, length-replicate count own))
              ∙ ap (λ (b : ℕ). Some b) (get_or-replicate count n own 0 less ∙ same);
          before = ap (count_by (λ c. c == byte)) (take-replicate n count own (omega (arith, less)))
              ∙ sum_by-replicate (λ c. cond (c == byte) 1 0) n own ∙ rw h (omega arith);
        }
    step false h = let none : count * cond (own == byte) 1 0 ≡ 0 = rw h (omega arith) in absurd (omega (arith, lt, all, none))
