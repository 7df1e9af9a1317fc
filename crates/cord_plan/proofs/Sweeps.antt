-- Tables of places from which a name is read, as the backwards flow fills them.
use Rattle.std.specs.Prelude.{◌≡◌, ◌⊎◌, ◌-◌, ◌<◌, ◌≤◌, ◌&&◌, ◌∷◌}
use Rattle.cord_plan.proofs.Common.{ℕ, zero, suc, Bool, true, false, List, [], map, length, set, Option, Some, None, refl, sym, ap, ◌∙◌, subst, inl, inr}
use Rattle.cord_plan.proofs.Common.{⊎_elim, arith, length-set, and-false, eq-or-lt_of_le, length-map, set-get_or, slice_get, not}
use Rattle.cord_plan.proofs.Common.{slice_get_past, Statement, Next, shape_of, reads, reads_at, assigns, assigns_at, ReadBy, successors}
use Rattle.cord_plan.proofs.Common.{some_of, at, finds, IsPartly, IsLive, flow}
use Rattle.cord_plan.proofs.Flows.{Found, shape_found, shape_held}

-- the parts of a find
found_parts : (a b c : Bool) → (not a && (b && not c)) ≡ true → (a ≡ false) × (b ≡ true) × (c ≡ false)
found_parts false true false e = (refl, refl, refl)
found_parts _ _ _ e = let bad : ⊥ = cc in absurd bad

-- what there is to find was found
none_found : (a b c : Bool) → (not a && (b && not c)) ≡ false → b ≡ true → c ≡ false → a ≡ true
none_found true b c e f g = refl
none_found false true false e f g = cc
none_found _ _ _ e f g = cc

-- what the flow makes of a bit, by whether it finds the place
flow_found : (a b c : Bool) → (not a && (b && not c)) ≡ true → flow a b c ≡ true
flow_found false true false e = refl
flow_found _ _ _ e = let bad : ⊥ = cc in absurd bad

flow_none : (a b c : Bool) → (not a && (b && not c)) ≡ false → flow a b c ≡ a
flow_none true b c e = refl
flow_none false b c e = e

flow_rests : (a b c : Bool) → flow a b c ≡ a → (not a && (b && not c)) ≡ false
flow_rests true b c e = refl
flow_rests false b c e = e

at_set : (table : List Bool) (p k : ℕ) → at table k ≡ true → at (set table p true) k ≡ true
at_set (b ∷ table) zero zero h = refl
at_set (b ∷ table) (suc p) (suc k) h = at_set table p k h
at_set _ _ _ h = h

-- where the table with one more place has one, it had it, or it is the new one
set_at : (table : List Bool) (p k : ℕ) → at (set table p true) k ≡ true → (k ≡ p) ⊎ (at table k ≡ true)
set_at (b ∷ table) zero zero h = inl refl
set_at (b ∷ table) (suc p) (suc k) h = ⊎_elim (λ same. inl (ap suc same)) (λ was. inr was) (set_at table p k h)
set_at _ _ _ h = inr h

-- what holds of each line, by places
at_map : (f : Statement → Bool) (on : Option Statement → Bool) → on None ≡ false → ((l : Statement) → on (Some l) ≡ f l) →
    (ls : List Statement) (k : ℕ) → at (map f ls) k ≡ on (slice_get ls k)
at_map f on none some [] k = sym none
at_map f on none some (l ∷ ls) zero = sym (some l)
at_map f on none some (l ∷ ls) (suc k) = at_map f on none some ls k

module _ (s : List Statement) (x : List ℕ) where
  read_at : (p : ℕ) → at (map (λ l. reads l x) s) p ≡ reads_at (slice_get s p) x
  read_at p = at_map (λ l. reads l x) (λ o. reads_at o x) refl (λ l. refl) s p

  pub assigned_at : (p : ℕ) → at (map (λ l. assigns l x) s) p ≡ assigns_at (slice_get s p) x
  assigned_at p = at_map (λ l. assigns l x) (λ o. assigns_at o x) refl (λ l. refl) s p

  -- the table of the lines that read
  pub readers_partly : (table : List Bool) → table ≡ map (λ l. reads l x) s → IsPartly s x table
  readers_partly table is = record {
    size = ap length is ∙ length-map s (λ l. reads l x);
    reads = λ p r. rw is (read_at p ∙ r);
    found = λ p h. ([], sym (read_at p) ∙ rw is at h);
  }

  module _ (table : List Bool) (p : ℕ) where
    -- a place after which there is one of the table's
    path_over : IsPartly s x table → assigns_at (slice_get s p) x ≡ false →
        Found (λ q. at table q) (map shape_of s) p (Next (map shape_of s) p) → (path : List ℕ) × ReadBy s x p path
    path_over partly unset found =
        let rest : (path : List ℕ) × ReadBy s x found.place path = partly.found found.place found.true_there in
        (found.place ∷ rest.0, (unset, found.next, rest.1))

    path_there : IsPartly s x table → finds s x table p ≡ true → (path : List ℕ) × ReadBy s x p path
    path_there partly e =
        let parts : (at table p ≡ false) × (some_of (λ q. at table q) (successors (map shape_of s) p) ≡ true)
        × (assigns_at (slice_get s p) x ≡ false) =
        found_parts (at table p) (some_of (λ q. at table q) (successors (map shape_of s) p)) (assigns_at (slice_get s p) x) e in
        path_over partly parts.2 (shape_found (λ q. at table q) (map shape_of s) p (slice_get (map shape_of s) p) parts.1)

    -- the place that was found is taken in
    pub set_partly : IsPartly s x table → finds s x table p ≡ true → IsPartly s x (set table p true)
    set_partly partly e = record {
      size = length-set table p true ∙ partly.size;
      reads = λ k r. at_set table p k (partly.reads k r);
      found = λ k h. ⊎_elim
          (λ same. subst (λ (n : ℕ). (path : List ℕ) × ReadBy s x n path) (sym same) (path_there partly e))
          (λ was. partly.found k was)
          (set_at table p k h);
    }

    -- what the flow makes of the place is taken in
    pub flow_partly : IsPartly s x table → (b : Bool) → b ≡ flow (at table p) (some_of (λ q. at table q) (successors (map shape_of s) p))
        (assigns_at (slice_get s p) x) → IsPartly s x (set table p b)
    flow_partly partly b is = by_find (finds s x table p) refl
      where
        by_find : (v : Bool) → finds s x table p ≡ v → IsPartly s x (set table p b)
        by_find true e = rw (is ∙ flow_found (at table p) (some_of (λ q. at table q) (successors (map shape_of s) p))
            (assigns_at (slice_get s p) x) e) (set_partly partly e)
        by_find false e = rw (
          is ∙ flow_none (at table p) (some_of (λ q. at table q) (successors (map shape_of s) p))
              (assigns_at (slice_get s p) x) e,
          set-get_or table p false,
        ) partly

    -- what the flow leaves was not to be found
    pub flow_resting : flow (at table p) (some_of (λ q. at table q) (successors (map shape_of s) p)) (assigns_at (slice_get s p) x)
        ≡ at table p → finds s x table p ≡ false
    flow_resting e = flow_rests (at table p) (some_of (λ q. at table q) (successors (map shape_of s) p)) (assigns_at (slice_get s p) x) e

    -- nothing is found after the script
    pub rests_past : length s ≤ p → finds s x table p ≡ false
    rests_past le =
        let none : slice_get (map shape_of s) p ≡ None = slice_get_past (map shape_of s) p (simp length-map (omega arith)) in
        rw none (and-false (not (at table p)))

  -- a table at rest has each place from which a path reads
  pub path_in_table : (table : List Bool) → IsLive s x table → (p : ℕ) (path : List ℕ) → ReadBy s x p path → at table p ≡ true
  path_in_table table live p [] r = live.partly.reads p r
  path_in_table table live p (q ∷ path) r =
      let there : at table q ≡ true = path_in_table table live q path r.2 in
      let held : some_of (λ m. at table m) (successors (map shape_of s) p) ≡ true =
      shape_held (λ m. at table m) (map shape_of s) p (slice_get (map shape_of s) p) q r.1 there in
      none_found (at table p) (some_of (λ m. at table m) (successors (map shape_of s) p)) (assigns_at (slice_get s p) x)
      (live.resting p) held r.0

-- at the last place looked at, and at those before
pub rests_from : (rests : ℕ → Type 0) (p : ℕ) → 0 < p → ((k : ℕ) → p ≤ k → rests k) → rests (p - 1) → (k : ℕ) → p - 1 ≤ k → rests k
rests_from rests p pos above here k le = ⊎_elim (λ same. subst rests same here) (λ up. above k (omega arith)) (eq-or-lt_of_le le)
