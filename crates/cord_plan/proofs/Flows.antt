-- What a backwards fixed point over the lines tells of paths.
use Rattle.std.specs.Prelude.{◌≡◌, ◌⊎◌, ◌+◌, ◌&&◌, ◌∷◌}
use Rattle.cord_plan.proofs.Common.{ℕ, zero, suc, Bool, true, false, List, [], map, Option, Some, None, refl, sym, ap, ◌∙◌, inl, inr}
use Rattle.cord_plan.proofs.Common.{slice_get, not, or_left, or_right, Statement, Shape, Straight, Loop, Branch, Otherwise, Close, jump}
use Rattle.cord_plan.proofs.Common.{Next, NextOf, NextOfClose, open_at, shape_of, reads_at, assigns_at, ReadBy, ReadLater, IsLater, IsFixed}
use Rattle.cord_plan.proofs.Common.{successors, close_successors, shape_successors, some_of, live, later_within, or_cases}

and_true : (a b : Bool) → (not a && b) ≡ true → (a ≡ false) × (b ≡ true)
and_true true b e = let h : ⊥ = cc in absurd h
and_true false b e = (refl, e)

module _ (holds : ℕ → Bool) where
  -- it holds of the one place
  of_one : (q : ℕ) → some_of holds (q ∷ []) ≡ true → holds q ≡ true
  of_one q e = elim (or_cases (holds q) false e) [ inl h ↦ h | inr h ↦ cc ]

  -- it holds of one of the two places
  of_two : (q r : ℕ) → some_of holds (q ∷ r ∷ []) ≡ true → (holds q ≡ true) ⊎ (holds r ≡ true)
  of_two q r e = elim (or_cases (holds q) (some_of holds (r ∷ [])) e) [ inl h ↦ inl h | inr h ↦ inr (of_one r h) ]

  to_first : (x q : ℕ) (qs : List ℕ) → q ≡ x → holds q ≡ true → some_of holds (x ∷ qs) ≡ true
  to_first x q qs same h = or_left (holds x) (some_of holds qs) (ap holds (sym same) ∙ h)

  to_second : (x y q : ℕ) → q ≡ y → holds q ≡ true → some_of holds (x ∷ y ∷ []) ≡ true
  to_second x y q same h = or_right (holds x) (some_of holds (y ∷ [])) (to_first y q [] same h)

  module _ (shapes : List Shape) (p : ℕ) where
    -- a place that may come next of which it holds
    pub record Found (N : ℕ → Type 0) : Type 0 where
      pub place : ℕ
      pub next : N place
      pub true_there : holds place ≡ true

    two_found : (q r : ℕ) → (holds q ≡ true) ⊎ (holds r ≡ true) → Found (λ n. (n ≡ q) ⊎ (n ≡ r))
    two_found q r (inl h) = record { place = q; next = inl refl; true_there = h }
    two_found q r (inr h) = record { place = r; next = inr refl; true_there = h }

    close_found : (blocks : List (Option ℕ)) → some_of holds (close_successors p blocks) ≡ true → Found (NextOfClose p blocks)
    close_found [] e = record { place = p + 1; next = refl; true_there = of_one (p + 1) e }
    close_found (None ∷ blocks) e = record { place = p + 1; next = refl; true_there = of_one (p + 1) e }
    close_found (Some r ∷ blocks) e = two_found (r + 1) (p + 1) (of_two (r + 1) (p + 1) e)

    pub shape_found : (o : Option Shape) → some_of holds (shape_successors shapes p o) ≡ true → Found (NextOf shapes p o)
    shape_found None e = let bad : ⊥ = cc in absurd bad
    shape_found (Some Straight) e = record { place = p + 1; next = refl; true_there = of_one (p + 1) e }
    shape_found (Some Loop) e = two_found (p + 1) (jump shapes p) (of_two (p + 1) (jump shapes p) e)
    shape_found (Some Branch) e = two_found (p + 1) (jump shapes p) (of_two (p + 1) (jump shapes p) e)
    shape_found (Some Otherwise) e = record { place = jump shapes p; next = refl; true_there = of_one (jump shapes p) e }
    shape_found (Some Close) e = close_found (open_at shapes p) e

    two_held : (a b q : ℕ) → (q ≡ a) ⊎ (q ≡ b) → holds q ≡ true → some_of holds (a ∷ b ∷ []) ≡ true
    two_held a b q (inl n) h = to_first a q (b ∷ []) n h
    two_held a b q (inr n) h = to_second a b q n h

    close_held : (blocks : List (Option ℕ)) (q : ℕ) → NextOfClose p blocks q → holds q ≡ true →
        some_of holds (close_successors p blocks) ≡ true
    close_held [] q n h = to_first (p + 1) q [] n h
    close_held (None ∷ blocks) q n h = to_first (p + 1) q [] n h
    close_held (Some r ∷ blocks) q n h = two_held (r + 1) (p + 1) q n h

    -- what holds of a place that may come next holds of one of those after
    pub shape_held : (o : Option Shape) (q : ℕ) → NextOf shapes p o q → holds q ≡ true → some_of holds (shape_successors shapes p o) ≡ true
    shape_held None q n h = absurd n
    shape_held (Some Straight) q n h = to_first (p + 1) q [] n h
    shape_held (Some Loop) q n h = two_held (p + 1) (jump shapes p) q n h
    shape_held (Some Branch) q n h = two_held (p + 1) (jump shapes p) q n h
    shape_held (Some Otherwise) q n h = to_first (jump shapes p) q [] n h
    shape_held (Some Close) q n h = close_held (open_at shapes p) q n h

-- what a path reads is in each fixed point
pub path_in : (s : List Statement) (table : List ℕ → ℕ → Bool) → IsFixed s table → (x : List ℕ) (p : ℕ) (path : List ℕ) →
    ReadBy s x p path → table x p ≡ true
path_in s table fixed x p [] r = fixed.reads x p r
path_in s table fixed x p (q ∷ path) r = fixed.flows x p q r.0 r.1 (path_in s table fixed x q path r.2)

-- and what isn't in it is read by no path
pub not_in : (s : List Statement) (table : List ℕ → ℕ → Bool) → IsFixed s table → (x : List ℕ) (p : ℕ) → table x p ≡ false →
    (path : List ℕ) → ReadBy s x p path → ⊥
not_in s table fixed x p e path r = let t : table x p ≡ true = path_in s table fixed x p path r in cc

-- a path that reads a name from a place
pub record Reading (s : List Statement) (x : List ℕ) (p : ℕ) : Type 0 where
  pub path : List ℕ
  pub reads : ReadBy s x p path

module _ (s : List Statement) (k : ℕ) (x : List ℕ) (p : ℕ) (ih : (q : ℕ) → live s k x q ≡ true → Reading s x q) where
  reading_after : assigns_at (slice_get s p) x ≡ false → Found (λ q. live s k x q) (map shape_of s) p (Next (map shape_of s) p) →
      Reading s x p
  reading_after unset found =
      let later : Reading s x found.place = ih found.place found.true_there in
      record { path = found.place ∷ later.path; reads = (unset, found.next, later.reads) }

  reading_step : (reads_at (slice_get s p) x ≡ true) ⊎
      ((not (assigns_at (slice_get s p) x) && some_of (λ q. live s k x q) (successors (map shape_of s) p)) ≡ true) → Reading s x p
  reading_step (inl r) = record { path = []; reads = r }
  reading_step (inr e) =
      let both : (assigns_at (slice_get s p) x ≡ false) × (some_of (λ q. live s k x q) (successors (map shape_of s) p) ≡ true) =
      and_true (assigns_at (slice_get s p) x) (some_of (λ q. live s k x q) (successors (map shape_of s) p)) e in
      reading_after both.0 (shape_found (λ q. live s k x q) (map shape_of s) p (slice_get (map shape_of s) p) both.1)

-- what the backwards flow found after k steps, a path reads
pub path_of : (s : List Statement) (k : ℕ) (x : List ℕ) (p : ℕ) → live s k x p ≡ true → Reading s x p
path_of s zero x p e = record { path = []; reads = e }
path_of s (suc k) x p e = reading_step s k x p (λ q h. path_of s k x q h)
    (or_cases (reads_at (slice_get s p) x)
    (not (assigns_at (slice_get s p) x) && some_of (λ q. live s k x q) (successors (map shape_of s) p)) e)

module _ (s : List Statement) (k : ℕ) where
  later_read : (x : List ℕ) (p : ℕ) → Found (λ q. live s k x q) (map shape_of s) p (Next (map shape_of s) p) → ReadLater s x p
  later_read x p found =
      let reading : Reading s x found.place = path_of s k x found.place found.true_there in
      record { first = found.place; path = reading.path; next = found.next; reads = reading.reads }

  -- where k steps leave a fixed point, they tell exactly what is read later
  pub settled : IsFixed s (λ x p. live s k x p) → IsLater s (λ x p. later_within s k x p)
  settled fixed = record {
    not_live = λ x p e q n path r.
        let there : live s k x q ≡ true = path_in s (λ y m. live s k y m) fixed x q path r in
        let held : later_within s k x p ≡ true =
        shape_held (λ m. live s k x m) (map shape_of s) p (slice_get (map shape_of s) p) q n there in
        cc;
    read = λ x p e. later_read x p (shape_found (λ q. live s k x q) (map shape_of s) p (slice_get (map shape_of s) p) e);
  }

-- two oracles that tell exactly what is read later tell the same
pub one_oracle : (s : List Statement) (a b : List ℕ → ℕ → Bool) → IsLater s a → IsLater s b → (x : List ℕ) (p : ℕ) → a x p ≡ b x p
one_oracle s a b reported other x p = pick (a x p) (b x p) refl refl
  where
    pick : (u v : Bool) → a x p ≡ u → b x p ≡ v → a x p ≡ b x p
    pick true true e f = e ∙ sym f
    pick false false e f = e ∙ sym f
    pick true false e f = let r : ReadLater s x p = reported.read x p e in absurd (other.not_live x p f r.first r.next r.path r.reads)
    pick false true e f = let r : ReadLater s x p = other.read x p f in absurd (reported.not_live x p e r.first r.next r.path r.reads)
