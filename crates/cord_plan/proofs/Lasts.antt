-- The nearest line, and what stays, by the last lines that assign and read a name.
use Rattle.std.specs.Prelude.{◌≡◌, ◌+◌, ◌-◌, ◌<◌, ◌≤◌, ◌||◌, ◌&&◌, ◌∷◌, ◌++◌, if◌then◌else◌}
use Rattle.cord_plan.proofs.Common.{ℕ, zero, suc, Bool, true, false, List, [], map, drop, length, get_or, Option, Some, None, inl, inr}
use Rattle.cord_plan.proofs.Common.{refl, sym, ap, ◌∙◌, arith, slice_get, not, and-false, and-true, le-leb, leb_tells, Statement}
use Rattle.cord_plan.proofs.Common.{at_drop_more, Exprs, append, names, Shared, members_of, shared_view, shape_of, assigns, assigns_at}
use Rattle.cord_plan.proofs.Common.{reads, reads_at, Numbering, each_from, is_block, is_block_at, preserves, setter, nearest, PutsPlaces}
use Rattle.cord_plan.proofs.Common.{entry_of, reader, blocker, is_before, is_after, stay, unless_after, or_right}
use Rattle.cord_plan.specs.Exprs.{names_of}
use Rattle.cord_plan.proofs.Appending.{names_append}
use Rattle.cord_plan.proofs.Chosen.{setter_is}
use Rattle.cord_plan.proofs.Nearest.{each_more}
use Rattle.cord_plan.proofs.PartSums.{preserves_append}

not_after : (p a : ℕ) → p ≤ a → is_after (Some p) a ≡ false
not_after p a le = ap not (le-leb p a le)

suffix : (p a : ℕ) → a < p → is_after (Some p) a ≡ true
suffix p a lt = elim (leb_tells p a) [
  | inl w ↦ absurd (omega (arith, lt, w.1))
  | inr w ↦ ap not w.0
]

-- a place that is b, or one before it
earlier : (v : Bool) (b q : ℕ) (o : Option ℕ) → (if v then Some b else o) ≡ Some q → (o ≡ Some q → q < b) → q < suc b
earlier true b q o h before = let same : b ≡ q = cc in omega arith
earlier false b q o h before = let below : q < b = before h in omega arith

module _ (s : List Statement) (x : List ℕ) where
  reader_before : (b q : ℕ) → reader s x b ≡ Some q → q < b
  reader_before zero q e = let bad : ⊥ = cc in absurd bad
  reader_before (suc b) q e = earlier (reads_at (slice_get s b) x) b q (reader s x b) e (λ h. reader_before b q h)

  blocker_before : (b q : ℕ) → blocker s b ≡ Some q → q < b
  blocker_before zero q e = let bad : ⊥ = cc in absurd bad
  blocker_before (suc b) q e = earlier (is_block_at (slice_get s b)) b q (blocker s b) e (λ h. blocker_before b q h)

  -- nothing before b stands after it
  none_after : (o : Option ℕ) (b : ℕ) → ((q : ℕ) → o ≡ Some q → q < b) → is_after o b ≡ false
  none_after None b below = refl
  none_after (Some q) b below = let lt : q < b = below q refl in not_after q b (omega arith)

  -- the nearest line by the last ones
  pub nearest_by_last : (b : ℕ) → nearest s x b ≡ unless_after (setter s x b) (reader s x b) (blocker s b)
  nearest_by_last zero = refl
  nearest_by_last (suc b) = by_assigns (assigns_at (slice_get s b) x) (is_block_at (slice_get s b)) (reads_at (slice_get s b) x)
      (nearest_by_last b)
    where
      shut : (o : Option ℕ) → ((a : ℕ) → o ≡ Some a → a < b) → (r k : Option ℕ) →
          ((a : ℕ) → a < b → (is_after r a || is_after k a) ≡ true) → None ≡ unless_after o r k
      shut None below r k bars = refl
      shut (Some a) below r k bars = ap (λ (v : Bool). if v then None else Some a) (sym (bars a (below a refl)))

      by_assigns : (f k r : Bool) → nearest s x b ≡ unless_after (setter s x b) (reader s x b) (blocker s b)
          → (if f then Some b else (if k || r then None else nearest s x b)) ≡ unless_after (if f then Some b else setter s x b)
          (if r then Some b else reader s x b) (if k then Some b else blocker s b)
      by_assigns true k r ih = sym (ap (λ (v : Bool). if v then None else Some b) (free k r))
        where
          here : is_after (Some b) b ≡ false
          here = not_after b b (omega arith)

          read : is_after (reader s x b) b ≡ false
          read = none_after (reader s x b) b (reader_before b)

          block : is_after (blocker s b) b ≡ false
          block = none_after (blocker s b) b (blocker_before b)

          free : (k r : Bool) → (is_after (if r then Some b else reader s x b) b || is_after (if k then Some b else blocker s b) b)
              ≡ false
          free true true = rw here refl
          free true false = rw (read, here) refl
          free false true = rw (here, block) refl
          free false false = rw (read, block) refl
      by_assigns false true r ih = shut (setter s x b) (λ a e. (setter_is s x b a e).before) (if r then Some b else reader s x b) (Some b)
          (λ a lt. or_right (is_after (if r then Some b else reader s x b) a) (is_after (Some b) a) (suffix b a lt))
      by_assigns false false true ih = shut (setter s x b) (λ a e. (setter_is s x b a e).before) (Some b) (blocker s b)
          (λ a lt. ap (λ (v : Bool). v || is_after (blocker s b) a) (suffix b a lt))
      by_assigns false false false ih = ih

  -- a name stays where no line assigned it since
  preserves_one : (m : ℕ) → preserves (slice_get s m) (x ∷ []) ≡ not (assigns_at (slice_get s m) x)
  preserves_one m = and-true (not (assigns_at (slice_get s m) x))

  pub stay_by_last : (a b : ℕ) → stay s a b (x ∷ []) ≡ is_before (setter s x b) a
  stay_by_last a zero =
      let zero_left : zero - a ≡ 0 = omega arith in ap (λ (n : ℕ). each_from (λ m. preserves (slice_get s m) (x ∷ [])) n a) zero_left
  stay_by_last a (suc b) = elim (leb_tells a b) [
    | inl w ↦ within w.1 (stay_by_last a b)
    | inr w ↦ past w.1
  ]
    where
      each : ℕ → Bool
      each n = each_from (λ m. preserves (slice_get s m) (x ∷ [])) n a

      within : a ≤ b → stay s a b (x ∷ []) ≡ is_before (setter s x b) a → stay s a (suc b) (x ∷ []) ≡ is_before (setter s x (suc b)) a
      within le ih =
          let more : suc b - a ≡ suc (b - a) = omega (arith, le) in
          let last : a + (b - a) ≡ b = omega (arith, le) in
          ap each more
          ∙ (each_more (λ m. preserves (slice_get s m) (x ∷ [])) (b - a) a
          ∙ (ap (λ (m : ℕ). each (b - a) && preserves (slice_get s m) (x ∷ [])) last
          ∙ (ap (λ (v : Bool). each (b - a) && v) (preserves_one b)
          ∙ pick (assigns_at (slice_get s b) x))))
        where
          pick : (v : Bool) → (each (b - a) && not v) ≡ is_before (if v then Some b else setter s x b) a
          pick true = and-false (each (b - a)) ∙ sym (ap not (le-leb a b le))
          pick false = and-true (each (b - a)) ∙ ih

      past : b < a → stay s a (suc b) (x ∷ []) ≡ is_before (setter s x (suc b)) a
      past lt =
          let none : suc b - a ≡ 0 = omega (arith, lt) in
          ap each none ∙ sym (early (setter s x (suc b)) (λ q e. (setter_is s x (suc b) q e).before))
        where
          early : (o : Option ℕ) → ((q : ℕ) → o ≡ Some q → q < suc b) → is_before o a ≡ true
          early None below = refl
          early (Some q) below = elim (leb_tells a q) [
            | inl w ↦ (let less : q < suc b = below q refl in absurd (omega (arith, w.1)))
            | inr w ↦ ap not w.0
          ]

-- what stays of two lists of names
module _ (s : List Statement) (a b : ℕ) where
  stay_append_from : (xs ys : List (List ℕ)) (n k : ℕ) → each_from (λ m. preserves (slice_get s m) (xs ++ ys)) n k
      ≡ (each_from (λ m. preserves (slice_get s m) xs) n k && each_from (λ m. preserves (slice_get s m) ys) n k)
  stay_append_from xs ys zero k = refl
  stay_append_from xs ys (suc n) k =
      pick (preserves (slice_get s k) xs) (preserves (slice_get s k) ys) (preserves (slice_get s k) (xs ++ ys))
      (preserves_append (slice_get s k) xs ys) (stay_append_from xs ys n (k + 1))
    where
      pick : (v w u : Bool) → u ≡ (v && w) → each_from (λ m. preserves (slice_get s m) (xs ++ ys)) n (k + 1)
          ≡ (each_from (λ m. preserves (slice_get s m) xs) n (k + 1) && each_from (λ m. preserves (slice_get s m) ys) n (k + 1))
          → (u && each_from (λ m. preserves (slice_get s m) (xs ++ ys)) n (k + 1))
          ≡ ((v && each_from (λ m. preserves (slice_get s m) xs) n (k + 1))
          && (w && each_from (λ m. preserves (slice_get s m) ys) n (k + 1)))
      pick true true u e ih = rw e ih
      pick true false u e ih = rw e (sym (and-false (each_from (λ m. preserves (slice_get s m) xs) n (k + 1))))
      pick false w u e ih = rw e refl

  pub stay_append : (xs ys : List (List ℕ)) → stay s a b (xs ++ ys) ≡ (stay s a b xs && stay s a b ys)
  stay_append xs ys = stay_append_from xs ys (b - a) a

  stay_nothing_from : (n k : ℕ) → each_from (λ m. preserves (slice_get s m) []) n k ≡ true
  stay_nothing_from zero k = refl
  stay_nothing_from (suc n) k = stay_nothing_from n (k + 1)

  pub stay_nothing : stay s a b [] ≡ true
  stay_nothing = stay_nothing_from (b - a) a

  -- what stays of members, by the first
  pub stay_member : (ms : List Shared) (k : ℕ) (m : Shared) → k < length ms → m ≡ get_or ms k m →
      stay s a b (names_of (members_of (map shared_view (drop k ms))))
      ≡ (stay s a b (names (shared_view m)) && stay s a b (names_of (members_of (map shared_view (drop (k + 1) ms)))))
  stay_member ms k m lt is =
      at_drop_more (λ (es : List Shared). stay s a b (names_of (members_of (map shared_view es)))) ms k m lt
      ∙ (ap (λ (x : Shared). stay s a b (names_of (members_of (map shared_view (x ∷ drop (k + 1) ms))))) (sym is)
      ∙ stay_append (names (shared_view m)) (names_of (members_of (map shared_view (drop (k + 1) ms)))))

  -- what stays of members, by those in front
  pub stay_both : (all prefix rest : Exprs) → all ≡ append prefix rest →
      stay s a b (names_of all) ≡ (stay s a b (names_of prefix) && stay s a b (names_of rest))
  stay_both all prefix rest e =
      ap (λ (es : Exprs). stay s a b (names_of es)) e
      ∙ (ap (λ (xs : List (List ℕ)). stay s a b xs) (names_append prefix rest) ∙ stay_append (names_of prefix) (names_of rest))

-- a line more
module _ (s : List Statement) (t : Numbering) (b : ℕ) (l : Statement) (here : slice_get s b ≡ Some l) where
  up : b + 1 ≡ suc b
  up = omega arith

  pub assigned_then : (old new : List (Option ℕ)) → PutsPlaces t (λ x. assigns l x) (Some b) old new →
      ((x : List ℕ) → entry_of t old x ≡ setter s x b) → (x : List ℕ) → entry_of t new x ≡ setter s x (b + 1)
  assigned_then old new notes before x =
      notes x ∙ ap (λ (o : Option ℕ). if assigns l x then Some b else o) (before x)
      ∙ sym (ap (λ (n : ℕ). setter s x n) up ∙ ap (λ (at : Option Statement). if assigns_at at x then Some b else setter s x b) here)

  pub read_then : (old new : List (Option ℕ)) → PutsPlaces t (λ x. reads l x) (Some b) old new →
      ((x : List ℕ) → entry_of t old x ≡ reader s x b) → (x : List ℕ) → entry_of t new x ≡ reader s x (b + 1)
  read_then old new notes before x =
      notes x ∙ ap (λ (o : Option ℕ). if reads l x then Some b else o) (before x)
      ∙ sym (ap (λ (n : ℕ). reader s x n) up ∙ ap (λ (at : Option Statement). if reads_at at x then Some b else reader s x b) here)

  pub block_then : (old : Option ℕ) (v : Bool) → v ≡ is_block (shape_of l) → old ≡ blocker s b →
      (if v then Some b else old) ≡ blocker s (b + 1)
  block_then old v is before =
      ap (λ (o : Option ℕ). if v then Some b else o) before
      ∙ (ap (λ (w : Bool). if w then Some b else blocker s b) is
      ∙ sym (ap (λ (n : ℕ). blocker s n) up ∙ ap (λ (at : Option Statement). if is_block_at at then Some b else blocker s b) here))
