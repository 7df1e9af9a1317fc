-- Tables of what is read later.
use Rattle.std.specs.Prelude.{◌≡◌, ◌+◌, ◌*◌, ◌/◌, ◌%◌, ◌<◌, ◌∷◌, ◌++◌}
use Rattle.cord_plan.proofs.Common.{ℕ, Bool, true, false, List, [], map, length, Option, Some, None, refl, sym, ap, ◌∙◌, arith, slice_get}
use Rattle.cord_plan.proofs.Common.{div-add-mod, mod-lt, slice_get_within, Statement, Next, shape_of, Global, Vec, Successors, Numbering, has}
use Rattle.cord_plan.proofs.Common.{reads_at, ReadBy, ReadLater, NotLive, IsLater, successors, some_of, names_of, number_of, IsBit, column}
use Rattle.cord_plan.proofs.Common.{ArePaths, AreLive, AllLive, IsLive, at, column_of, places_at, reports_of, below_more}
use Rattle.cord_plan.proofs.Pushed.{get_before, get_last}
use Rattle.cord_plan.proofs.Flows.{Found, shape_found, shape_held}
use Rattle.cord_plan.proofs.Numbers.{CoversNames, Numbered, numbered, unnumbered}
use Rattle.cord_plan.proofs.Sweeps.{path_in_table}

-- the group and the bit of a number
pub split_number : (n : ℕ) → 128 * (n / 128) + n % 128 ≡ n
split_number n = div-add-mod n 128

pub bit_within : (n : ℕ) → n % 128 < 128
bit_within n = mod-lt n (omega arith)

-- the live places of a name
abbrev live_of : Numbering → List (Vec ℕ Global) → List ℕ → List Bool
live_of t groups x = column_of groups (number_of t x)

-- of one that has no number
none_live : (t : Numbering) (groups : List (Vec ℕ Global)) (x : List ℕ) → has (names_of t) x ≡ false → live_of t groups x ≡ []
none_live t groups x e = rw (unnumbered t x e) refl

-- each of the first k groups is live
abbrev pub LiveTo : List Statement → Numbering → ℕ → List (Vec ℕ Global) → Type 0
LiveTo s t k groups = (g : ℕ) → g < k → (group : Vec ℕ Global) × (slice_get groups g ≡ Some group) × AreLive s t g group.items

pub live_more : (s : List Statement) (t : Numbering) (k : ℕ) (groups : List (Vec ℕ Global)) (last : Vec ℕ Global) → length groups ≡ k →
    LiveTo s t k groups → AreLive s t k last.items → LiveTo s t (k + 1) (groups ++ last ∷ [])
live_more s t k groups last size before live =
    below_more (λ g. (group : Vec ℕ Global) × (slice_get (groups ++ last ∷ []) g ≡ Some group) × AreLive s t g group.items) k
    (λ g lt. (let found = before g lt in (found.0, get_before groups (last ∷ []) g found.0 found.1, found.2)))
    (last, ap (λ (n : ℕ). slice_get (groups ++ last ∷ []) n) (sym size) ∙ get_last groups last, live)

module _ (s : List Statement) (t : Numbering) (table : List Successors) (groups : List (Vec ℕ Global)) (paths : ArePaths (map shape_of s) table)
    (covers : CoversNames s t) (all : AllLive s t groups) where
  module _ (x : List ℕ) where
    live : has (names_of t) x ≡ true → IsLive s x (live_of t groups x)
    live known =
        let found : Numbered t x = numbered t x known in
        let group : (group : Vec ℕ Global) × (slice_get groups (found.number / 128) ≡ Some group)
        × AreLive s t (found.number / 128) group.items = all found.number found.within in
        let bit : IsBit t (found.number / 128) x (found.number % 128) =
        record { within = bit_within found.number; number = found.is ∙ ap Some (sym (split_number found.number)) } in
        let there : live_of t groups x ≡ column group.0.items (found.number % 128) = rw (found.is, group.1) refl in
        rw there (group.2 x (found.number % 128) bit)

    path_known : (p : ℕ) (path : List ℕ) → ReadBy s x p path → has (names_of t) x ≡ true
    path_known p (q ∷ path) r = path_known q path r.2
    path_known p [] r = covers p (inside (slice_get s p) refl r) x r
      where
        inside : (o : Option Statement) → slice_get s p ≡ o → reads_at o x ≡ true → p < length s
        inside None e h = let bad : ⊥ = cc in absurd bad
        inside (Some l) e h = slice_get_within s p l e

    some_none : (qs : List ℕ) → some_of (λ q. at [] q) qs ≡ false
    some_none [] = refl
    some_none (q ∷ qs) = some_none qs

    reported_not_live : (p : ℕ) (v : Bool) → has (names_of t) x ≡ v → reports_of table groups (number_of t x) p ≡ false → (q : ℕ) →
        Next (map shape_of s) p q →
        (path : List ℕ) → ReadBy s x q path → ⊥
    reported_not_live p false known e q next path r =
        let known_too : has (names_of t) x ≡ true = path_known q path r in
        let bad : ⊥ = cc in
        bad
    reported_not_live p true known e q next path r =
        let there : at (live_of t groups x) q ≡ true = path_in_table s x (live_of t groups x) (live known) q path r in
        let held : some_of (λ m. at (live_of t groups x) m) (successors (map shape_of s) p) ≡ true =
        shape_held (λ m. at (live_of t groups x) m) (map shape_of s) p (slice_get (map shape_of s) p) q next there in
        let reported : reports_of table groups (number_of t x) p ≡ true = rw (paths p) held in
        let bad : ⊥ = cc in
        bad

    read_found : (p : ℕ) → IsLive s x (live_of t groups x) →
        Found (λ q. at (live_of t groups x) q) (map shape_of s) p (Next (map shape_of s) p) →
        ReadLater s x p
    read_found p live found =
        let rest : (path : List ℕ) × ReadBy s x found.place path = live.partly.found found.place found.true_there in
        record { first = found.place; path = rest.0; next = found.next; reads = rest.1 }

    reported_read : (p : ℕ) (v : Bool) → has (names_of t) x ≡ v → reports_of table groups (number_of t x) p ≡ true → ReadLater s x p
    reported_read p false known e =
        let none : live_of t groups x ≡ [] = none_live t groups x known in
        let off : some_of (λ q. at [] q) (places_at table p) ≡ true = rw none at e in
        let bad : ⊥ = cc (some_none (places_at table p)) in
        absurd bad
    reported_read p true known e =
        let held : some_of (λ q. at (live_of t groups x) q) (successors (map shape_of s) p) ≡ true = rw (paths p) at e in
        read_found p (live known) (shape_found (λ q. at (live_of t groups x) q) (map shape_of s) p (slice_get (map shape_of s) p) held)

    -- a table that has the names that lines read tells exactly what is read later
    pub reports_at_all : (p : ℕ) → (reports_of table groups (number_of t x) p ≡ false → NotLive s x p) ×
        (reports_of table groups (number_of t x) p ≡ true → ReadLater s x p)
    reports_at_all p = (λ e. reported_not_live p (has (names_of t) x) refl e, λ e. reported_read p (has (names_of t) x) refl e)

  pub reports_exactly : IsLater s (λ x p. reports_of table groups (number_of t x) p)
  reports_exactly = record {
    not_live = λ x p e. (reports_at_all x p).0 e;
    read = λ x p e. (reports_at_all x p).1 e;
  }
