-- What is read later in a script without blocks.
use Rattle.std.specs.Prelude.{◌≡◌, ◌⊎◌, ◌+◌, ◌<◌, ◌∷◌}
use Rattle.cord_plan.proofs.Common.{ℕ, zero, suc, Bool, true, false, List, [], map, drop, get_or, length, inl, inr, Option, Some, None}
use Rattle.cord_plan.proofs.Common.{refl, sym, ap, ◌∙◌, arith, slice_get, and-false, and-true, at_drop_more, slice_get-map, slice_get_cases}
use Rattle.cord_plan.proofs.Common.{Statement, Shape, Straight, Next, shape_of, is_block, is_block_at, assigns, assigns_at, reads, reads_at}
use Rattle.cord_plan.proofs.Common.{IsLater, ReadBy, ReadLater, flow, later_in, NoBlocks}

-- only a simple statement belongs to no block
simple_alone : (x : Shape) → is_block x ≡ false → x ≡ Straight
simple_alone Straight e = refl
simple_alone x e = let bad : ⊥ = cc in absurd bad

-- how a line reads a name before it is assigned
flow_parts : (a b c : Bool) → flow a b c ≡ true → (a ≡ true) ⊎ ((b ≡ true) × (c ≡ false))
flow_parts true b c e = inl refl
flow_parts false true false e = inr (refl, refl)
flow_parts false true true e = let bad : ⊥ = cc in absurd bad
flow_parts false false c e = let bad : ⊥ = cc in absurd bad

flow_read : (a b c : Bool) → a ≡ true → flow a b c ≡ true
flow_read a b c e = rw e refl

flow_on : (a b c : Bool) → b ≡ true → c ≡ false → flow a b c ≡ true
flow_on true b c e f = refl
flow_on false b c e f = rw (e, f) refl

-- the lines from a place on
lines_from : (s : List Statement) (p : ℕ) (x : List ℕ) → later_in (drop p s) x
    ≡ flow (reads_at (slice_get s p) x) (later_in (drop (suc p) s) x) (assigns_at (slice_get s p) x)
lines_from [] zero x = refl
lines_from [] (suc p) x = refl
lines_from (l ∷ ls) zero x = refl
lines_from (l ∷ ls) (suc p) x = lines_from ls p x

-- where the line at a place reads a name, and where it doesn't but assigns it
module _ (s : List Statement) (p : ℕ) (l : Statement) (x : List ℕ) (within : p < length s) (is : l ≡ get_or s p l) where
  line_from : later_in (drop p s) x ≡ flow (reads l x) (later_in (drop (p + 1) s) x) (assigns l x)
  line_from = at_drop_more (λ (ls : List Statement). later_in ls x) s p l within
      ∙ ap (λ (m : Statement). later_in (m ∷ drop (p + 1) s) x) (sym is)

  pub read_here : reads l x ≡ true → later_in (drop p s) x ≡ true
  read_here r = line_from ∙ flow_read (reads l x) (later_in (drop (p + 1) s) x) (assigns l x) r

  pub assigned_here : reads l x ≡ false → assigns l x ≡ true → later_in (drop p s) x ≡ false
  assigned_here r a = line_from ∙ rw (r, a) (and-false (later_in (drop (p + 1) s) x))

  pub passed_here : reads l x ≡ false → assigns l x ≡ false → later_in (drop p s) x ≡ later_in (drop (p + 1) s) x
  passed_here r a = line_from ∙ rw (r, a) (and-true (later_in (drop (p + 1) s) x))

record Head (s : List Statement) (p : ℕ) (l : Statement) (ls : List Statement) : Type 0 where
  pub there : slice_get s p ≡ Some l
  pub rest : drop (suc p) s ≡ ls
  pub within : p < length s

head_of : (s : List Statement) (p : ℕ) (l : Statement) (ls : List Statement) → drop p s ≡ l ∷ ls → Head s p l ls
head_of [] zero l ls e = let bad : ⊥ = cc in absurd bad
head_of [] (suc p) l ls e = let bad : ⊥ = cc in absurd bad
head_of (m ∷ s) zero l ls e = record { there = let same : m ≡ l = cc in ap Some same; rest = cc; within = omega arith }
head_of (m ∷ s) (suc p) l ls e =
    let found : Head s p l ls = head_of s p l ls e in
    record { there = found.there; rest = found.rest; within = let lt = found.within in omega arith }

module _ (s : List Statement) (none : NoBlocks s) where
  -- without blocks each place leads to the next one alone
  next_is : (p q : ℕ) (o : Option Statement) → slice_get s p ≡ o → Next (map shape_of s) p q → q ≡ p + 1
  next_is p q None e next = let past : ⊥ = rw (slice_get-map shape_of s p, e) at next in absurd past
  next_is p q (Some l) e next =
      let simple : shape_of l ≡ Straight = simple_alone (shape_of l) (ap is_block_at (sym e) ∙ none p) in
      rw (slice_get-map shape_of s p, e, simple) at next

  next_there : (p : ℕ) → p < length s → Next (map shape_of s) p (p + 1)
  next_there p lt = elim (slice_get_cases s p).1 [
    | inl w ↦
        let simple : shape_of w.0 ≡ Straight = simple_alone (shape_of w.0) (ap is_block_at (sym w.2) ∙ none p) in
        rw (slice_get-map shape_of s p, w.2, simple) refl
    | inr w ↦ absurd (omega (arith, lt, w.0))
  ]

  module _ (x : List ℕ) where
    -- a path from a place reads x where the lines from there do
    path_reads : (p : ℕ) (path : List ℕ) → ReadBy s x p path → later_in (drop p s) x ≡ true
    path_reads p [] r =
        lines_from s p x ∙ flow_read (reads_at (slice_get s p) x) (later_in (drop (suc p) s) x) (assigns_at (slice_get s p) x) r
    path_reads p (q ∷ path) r =
        let on : q ≡ p + 1 = next_is p q (slice_get s p) refl r.1 in
        let same : suc p ≡ q = omega (arith, on) in
        let rest : later_in (drop (suc p) s) x ≡ true = ap (λ (n : ℕ). later_in (drop n s) x) same ∙ path_reads q path r.2 in
        lines_from s p x ∙ flow_on (reads_at (slice_get s p) x) (later_in (drop (suc p) s) x) (assigns_at (slice_get s p) x) rest r.0

    -- and the other way round
    path_of : (ls : List Statement) (p : ℕ) → drop p s ≡ ls → later_in ls x ≡ true → (path : List ℕ) × ReadBy s x p path
    path_of [] p from e = let bad : ⊥ = cc in absurd bad
    path_of (l ∷ ls) p from e = by_line (head_of s p l ls from) (flow_parts (reads l x) (later_in ls x) (assigns l x) e)
        (λ f g. path_of ls (p + 1) f g)
      where
        by_line : Head s p l ls → (reads l x ≡ true) ⊎ ((later_in ls x ≡ true) × (assigns l x ≡ false)) →
            (drop (p + 1) s ≡ ls → later_in ls x ≡ true → (path : List ℕ) × ReadBy s x (p + 1) path) → (path : List ℕ) × ReadBy s x p path
        by_line head (inl r) on = ([], ap (λ (o : Option Statement). reads_at o x) head.there ∙ r)
        by_line head (inr w) on =
            let same : p + 1 ≡ suc p = omega arith in
            let rest : (path : List ℕ) × ReadBy s x (p + 1) path = on (ap (λ (n : ℕ). drop n s) same ∙ head.rest) w.0 in
            ((p + 1) ∷ rest.0, (ap (λ (o : Option Statement). assigns_at o x) head.there ∙ w.1, next_there p head.within, rest.1))

    read_after : (p : ℕ) (ls : List Statement) → drop (p + 1) s ≡ ls → later_in ls x ≡ true → ReadLater s x p
    read_after p [] from e = let bad : ⊥ = cc in absurd bad
    read_after p (l ∷ ls) from e =
        let rest : (path : List ℕ) × ReadBy s x (p + 1) path = path_of (l ∷ ls) (p + 1) from e in
        let within : p + 1 < length s = (head_of s (p + 1) l ls from).within in
        record { first = p + 1; path = rest.0; next = next_there p (omega (arith, within)); reads = rest.1 }

  -- the lines after each line tell what is read later
  pub lines_report : IsLater s (λ x p. later_in (drop (p + 1) s) x)
  lines_report = record {
    not_live = λ x p e q next path r.
        (let on : q ≡ p + 1 = next_is p q (slice_get s p) refl next in
        let there : later_in (drop (p + 1) s) x ≡ true = ap (λ (n : ℕ). later_in (drop n s) x) (sym on) ∙ path_reads x q path r in
        let bad : ⊥ = cc in bad);
    read = λ x p e. read_after x p (drop (p + 1) s) refl e;
  }
