-- Where control may go that doesn't go on to the next line: after a block's line, to one, or past the end of the script.
use Rattle.std.specs.Prelude.{◌≡◌, ◌+◌, ◌⊎◌, ◌∷◌}
use Rattle.cord_plan.proofs.Common.{ℕ, zero, suc, Bool, true, List, [], drop, Option, Some, None, refl, sym, ap, ◌∙◌, subst, inl, inr}
use Rattle.cord_plan.proofs.Common.{arith, slice_get, Shape, Straight, Loop, Branch, Otherwise, Close, to_end, to_else, jump_of, jump_at}
use Rattle.cord_plan.proofs.Common.{jump, opened, open_at, NextOf, NextOfClose, Next, IsControl, is_block}

-- a block's shape, or none
abbrev pub is_block_or_none : Option Shape → Bool
is_block_or_none None = true
is_block_or_none (Some x) = is_block x

slice_get_drop : {X : Type 0} (k : ℕ) (xs : List X) (n : ℕ) → slice_get (drop k xs) n ≡ slice_get xs (k + n)
slice_get_drop zero xs n = let same : n ≡ zero + n = omega arith in ap (λ (m : ℕ). slice_get xs m) same
slice_get_drop (suc k) [] zero = refl
slice_get_drop (suc k) [] (suc n) = refl
slice_get_drop (suc k) (x ∷ xs) n = let same : suc (k + n) ≡ suc k + n = omega arith in
    slice_get_drop k xs n ∙ ap (λ (m : ℕ). slice_get (x ∷ xs) m) same

to_end_lands : (d : ℕ) (ls : List Shape) → is_block_or_none (slice_get ls (to_end d ls)) ≡ true
to_end_lands d [] = refl
to_end_lands d (Loop ∷ rest) = to_end_lands (suc d) rest
to_end_lands d (Branch ∷ rest) = to_end_lands (suc d) rest
to_end_lands zero (Close ∷ rest) = refl
to_end_lands (suc d) (Close ∷ rest) = to_end_lands d rest
to_end_lands d (_ ∷ rest) = to_end_lands d rest

-- at n, or at the place before it
abbrev pub IsByBlock : List Shape → ℕ → Type 0
IsByBlock ls n = (is_block_or_none (slice_get ls n) ≡ true) ⊎ ((m : ℕ) × (n ≡ suc m) × (is_block_or_none (slice_get ls m) ≡ true))

one_further : (x : Shape) (ls : List Shape) (n : ℕ) → IsByBlock ls n → IsByBlock (x ∷ ls) (suc n)
one_further x ls n (inl b) = inl b
one_further x ls n (inr w) = inr (suc w.0, ap suc w.1, w.2)

to_else_lands : (d : ℕ) (ls : List Shape) → IsByBlock ls (to_else d ls)
to_else_lands d [] = inl refl
to_else_lands d (Straight ∷ rest) = one_further Straight rest (to_else d rest) (to_else_lands d rest)
to_else_lands d (Loop ∷ rest) = one_further Loop rest (to_else (suc d) rest) (to_else_lands (suc d) rest)
to_else_lands d (Branch ∷ rest) = one_further Branch rest (to_else (suc d) rest) (to_else_lands (suc d) rest)
to_else_lands zero (Otherwise ∷ rest) = inr (0, refl, refl)
to_else_lands (suc d) (Otherwise ∷ rest) = one_further Otherwise rest (to_else (suc d) rest) (to_else_lands (suc d) rest)
to_else_lands zero (Close ∷ rest) = inl refl
to_else_lands (suc d) (Close ∷ rest) = one_further Close rest (to_else d rest) (to_else_lands d rest)

module _ (shapes : List Shape) where
  -- the open blocks that have a place are those of a `repeat`
  abbrev Loops : List (Option ℕ) → Type 0
  Loops [] = Unit {0}
  Loops (None ∷ blocks) = Loops blocks
  Loops (Some r ∷ blocks) = (slice_get shapes r ≡ Some Loop) × Loops blocks

  loops_rest : (b : Option ℕ) (blocks : List (Option ℕ)) → Loops (b ∷ blocks) → Loops blocks
  loops_rest None blocks h = h
  loops_rest (Some r) blocks h = h.1

  loops_opened : (p : ℕ) (blocks : List (Option ℕ)) (o : Option Shape) → slice_get shapes p ≡ o → Loops blocks → Loops (opened p blocks o)
  loops_opened p blocks (Some Loop) e h = (e, h)
  loops_opened p [] (Some Close) e h = tt
  loops_opened p (b ∷ blocks) (Some Close) e h = loops_rest b blocks h
  loops_opened p blocks o e h = h

  open_loops : (p : ℕ) → Loops (open_at shapes p)
  open_loops zero = tt
  open_loops (suc p) = loops_opened p (open_at shapes p) (slice_get shapes p) refl (open_loops p)

  abbrev rest_of : ℕ → List Shape
  rest_of p = drop (p + 1) shapes

  after_by_block : (q m : ℕ) → q ≡ m + 1 → is_block_or_none (slice_get shapes m) ≡ true → IsByBlock shapes q
  after_by_block q m e b = let same : q ≡ suc m = omega (arith, e) in inr (m, same, b)

  at_rest : (p n : ℕ) → is_block_or_none (slice_get (rest_of p) n) ≡ true → is_block_or_none (slice_get shapes (p + 1 + n)) ≡ true
  at_rest p n b = ap is_block_or_none (sym (slice_get_drop (p + 1) shapes n)) ∙ b

  in_rest : (p n : ℕ) → IsByBlock (rest_of p) n → IsByBlock shapes (p + 1 + n)
  in_rest p n (inl b) = inl (at_rest p n b)
  in_rest p n (inr w) = let same : p + 1 + n ≡ suc (p + 1 + w.0) = omega (arith, w.1) in inr (p + 1 + w.0, same, at_rest p w.0 w.2)

  loop_by_block : (p q : ℕ) → q ≡ jump_of Loop p (rest_of p) → IsByBlock shapes q
  loop_by_block p q e = after_by_block q (p + 1 + to_end 0 (rest_of p)) e (at_rest p (to_end 0 (rest_of p)) (to_end_lands 0 (rest_of p)))

  branch_by_block : (p q : ℕ) → q ≡ jump_of Branch p (rest_of p) → IsByBlock shapes q
  branch_by_block p q e = subst (λ (n : ℕ). IsByBlock shapes n) (sym e) (in_rest p (to_else 0 (rest_of p)) (to_else_lands 0 (rest_of p)))

  else_by_block : (p q : ℕ) → q ≡ jump_of Otherwise p (rest_of p) → IsByBlock shapes q
  else_by_block p q e = subst (λ (n : ℕ). IsByBlock shapes n) (sym e) (inl (at_rest p (to_end 0 (rest_of p)) (to_end_lands 0 (rest_of p))))

  module _ (p q : ℕ) (x : Shape) (here : slice_get shapes p ≡ Some x) where
    jump_is : jump shapes p ≡ jump_of x p (rest_of p)
    jump_is = ap (λ (o : Option Shape). jump_at o p (rest_of p)) here

    one_after : is_block x ≡ true → q ≡ p + 1 → IsByBlock shapes q
    one_after k e = after_by_block q p e (ap is_block_or_none here ∙ k)

    close_by_block : (blocks : List (Option ℕ)) → Loops blocks → is_block x ≡ true → NextOfClose p blocks q → IsByBlock shapes q
    close_by_block [] h k e = one_after k e
    close_by_block (None ∷ blocks) h k e = one_after k e
    close_by_block (Some r ∷ blocks) h k (inl e) = after_by_block q r e (ap is_block_or_none h.0)
    close_by_block (Some r ∷ blocks) h k (inr e) = one_after k e

  -- a place that comes next after a block's line is by a block
  pub next_by_block : (p q : ℕ) (x : Shape) → slice_get shapes p ≡ Some x → IsControl x → Next shapes p q → IsByBlock shapes q
  next_by_block p q x here k n = pick x here k (subst (λ (o : Option Shape). NextOf shapes p o q) here n)
    where
      pick : (x : Shape) → slice_get shapes p ≡ Some x → IsControl x → NextOf shapes p (Some x) q → IsByBlock shapes q
      pick Straight here k n = absurd k
      pick Loop here k (inl e) = one_after p q Loop here refl e
      pick Loop here k (inr e) = loop_by_block p q (e ∙ jump_is p q Loop here)
      pick Branch here k (inl e) = one_after p q Branch here refl e
      pick Branch here k (inr e) = branch_by_block p q (e ∙ jump_is p q Branch here)
      pick Otherwise here k e = else_by_block p q (e ∙ jump_is p q Otherwise here)
      pick Close here k n = close_by_block p q Close here (open_at shapes p) (open_loops p) refl n
