-- The places that may come next, as the program finds them.
use Rattle.std.specs.Prelude.{◌≡◌, ◌+◌, ◌<◌, ◌≤◌, ◌∷◌, ◌++◌, ◌-◌}
use Rattle.cord_plan.proofs.Common.{ℕ, zero, suc, List, [], map, drop, length, get_or, take, Option, Some, None, refl, sym, ap, ◌∙◌, ⊎_elim}
use Rattle.cord_plan.proofs.Common.{arith, add-one, slice_get, drop-map, take_rest, slice_get-map, slice_get-get_or, slice_get_past}
use Rattle.cord_plan.proofs.Common.{slice_get_cases, Straight, Loop, Branch, Otherwise, Close, to_end, to_else, jump, opened, open_at}
use Rattle.cord_plan.proofs.Common.{Successors, successors, close_successors, shape_view, innermost, places, places_at, ArePaths}
use Rattle.cord_meaning.specs.Blocks as control
use Rattle.cord_plan.specs.declared.flow.successors.Shape.{Shape}

-- the shape at a place
pub shape_there : (xs : List Shape) (p : ℕ) (x d : Shape) → p < length xs → get_or xs p d ≡ x →
    slice_get (map shape_view xs) p ≡ Some (shape_view x)
shape_there xs p x d lt is =
    let there : slice_get xs p ≡ Some x = slice_get-get_or xs p d lt ∙ ap Some is in
    rw (slice_get-map shape_view xs p, there) refl

-- the shapes after a place
pub shapes_after : (xs : List Shape) (n : ℕ) → map shape_view (take (length xs - n) (drop n xs)) ≡ drop n (map shape_view xs)
shapes_after xs n = rw (take_rest xs n) (sym (drop-map shape_view n xs))

module _ (shapes : List control.Shape) (p : ℕ) where
  pub after_simple : slice_get shapes p ≡ Some Straight → (p + 1) ∷ [] ≡ successors shapes p
  after_simple is = rw is refl

  pub jump_simple : slice_get shapes p ≡ Some Straight → p + 1 ≡ jump shapes p
  jump_simple is = rw is refl

  pub jump_close : slice_get shapes p ≡ Some Close → p + 1 ≡ jump shapes p
  jump_close is = rw is refl

  pub jump_loop : (n : ℕ) → slice_get shapes p ≡ Some Loop → n ≡ to_end 0 (drop (p + 1) shapes) → p + 1 + n + 1 ≡ jump shapes p
  jump_loop n is count = rw (is, count) refl

  pub jump_branch : (n : ℕ) → slice_get shapes p ≡ Some Branch → n ≡ to_else 0 (drop (p + 1) shapes) → p + 1 + n ≡ jump shapes p
  jump_branch n is count = rw (is, count) refl

  pub jump_otherwise : (n : ℕ) → slice_get shapes p ≡ Some Otherwise → n ≡ to_end 0 (drop (p + 1) shapes) → p + 1 + n ≡ jump shapes p
  jump_otherwise n is count = rw (is, count) refl

  pub after_loop : (q : ℕ) → slice_get shapes p ≡ Some Loop → q ≡ jump shapes p → (p + 1) ∷ q ∷ [] ≡ successors shapes p
  after_loop q is leads = ap (λ (w : ℕ). (p + 1) ∷ w ∷ []) leads ∙ two
    where
      two : (p + 1) ∷ jump shapes p ∷ [] ≡ successors shapes p
      two = rw (is, is) refl

  pub after_branch : (q : ℕ) → slice_get shapes p ≡ Some Branch → q ≡ jump shapes p → (p + 1) ∷ q ∷ [] ≡ successors shapes p
  after_branch q is leads = ap (λ (w : ℕ). (p + 1) ∷ w ∷ []) leads ∙ two
    where
      two : (p + 1) ∷ jump shapes p ∷ [] ≡ successors shapes p
      two = rw (is, is) refl

  pub after_otherwise : (q : ℕ) → slice_get shapes p ≡ Some Otherwise → q ≡ jump shapes p → q ∷ [] ≡ successors shapes p
  after_otherwise q is leads = ap (λ (w : ℕ). w ∷ []) leads ∙ one
    where
      one : jump shapes p ∷ [] ≡ successors shapes p
      one = rw (is, is) refl

  next_of_close : (blocks : List (Option ℕ)) → None ≡ innermost blocks → (p + 1) ∷ [] ≡ close_successors p blocks
  next_of_close [] e = refl
  next_of_close (None ∷ blocks) e = refl
  next_of_close (Some r ∷ blocks) e = cc

  back_of_close : (r : ℕ) (blocks : List (Option ℕ)) → Some r ≡ innermost blocks → (r + 1) ∷ (p + 1) ∷ [] ≡ close_successors p blocks
  back_of_close r [] e = cc
  back_of_close r (None ∷ blocks) e = cc
  back_of_close r (Some q ∷ blocks) e = cc

  pub after_branch_end : slice_get shapes p ≡ Some Close → None ≡ innermost (open_at shapes p) → (p + 1) ∷ [] ≡ successors shapes p
  after_branch_end is e = rw is (next_of_close (open_at shapes p) e)

  pub after_loop_end : (r : ℕ) → slice_get shapes p ≡ Some Close → Some r ≡ innermost (open_at shapes p) →
      (r + 1) ∷ (p + 1) ∷ [] ≡ successors shapes p
  after_loop_end r is e = rw is (back_of_close r (open_at shapes p) e)

-- each open `repeat` stands before this place
abbrev Below : ℕ → List (Option ℕ) → Type 0
Below p [] = Unit {0}
Below p (None ∷ blocks) = Below p blocks
Below p (Some r ∷ blocks) = (r < p) × Below p blocks

below_more : (p : ℕ) (blocks : List (Option ℕ)) → Below p blocks → Below (suc p) blocks
below_more p [] h = tt
below_more p (None ∷ blocks) h = below_more p blocks h
below_more p (Some r ∷ blocks) h = (let lt : r < p = h.0 in omega arith, below_more p blocks h.1)

rest_below : (p : ℕ) (block : Option ℕ) (blocks : List (Option ℕ)) → Below p (block ∷ blocks) → Below p blocks
rest_below p None blocks h = h
rest_below p (Some r) blocks h = h.1

opened_below : (p : ℕ) (blocks : List (Option ℕ)) (x : Option control.Shape) → Below p blocks → Below (suc p) (opened p blocks x)
opened_below p blocks (Some Loop) h = (omega arith, below_more p blocks h)
opened_below p [] (Some Close) h = tt
opened_below p (block ∷ blocks) (Some Close) h = below_more p blocks (rest_below p block blocks h)
opened_below p blocks x h = below_more p blocks h

open_below : (shapes : List control.Shape) (p : ℕ) → Below p (open_at shapes p)
open_below shapes zero = tt
open_below shapes (suc p) = opened_below p (open_at shapes p) (slice_get shapes p) (open_below shapes p)

first_below : (p r : ℕ) (blocks : List (Option ℕ)) → Below p blocks → Some r ≡ innermost blocks → r < p
first_below p r (Some q ∷ blocks) h e = let same : r ≡ q = cc in let lt : q < p = h.0 in omega arith
first_below p r _ h e = let bad : ⊥ = cc in absurd bad

-- an open `repeat` stands before the place
pub block_below : (shapes : List control.Shape) (p r : ℕ) → Some r ≡ innermost (open_at shapes p) → r < p
block_below shapes p r e = first_below p r (open_at shapes p) (open_below shapes p) e

-- what one more place leads to
pub pushed : (found : List Successors) (b : Successors) (f : ℕ → List ℕ) → ((k : ℕ) → k < length found → places_at found k ≡ f k) →
    places b ≡ f (length found) → (k : ℕ) → k < length found + 1 → places_at (found ++ b ∷ []) k ≡ f k
pushed [] b f below here zero lt = here
pushed [] b f below here (suc k) lt = absurd (omega arith)
pushed (x ∷ found) b f below here zero lt = below 0 (omega arith)
pushed (x ∷ found) b f below here (suc k) lt = pushed found b (λ n. f (suc n)) (λ n h. below (suc n) (omega arith)) here k (omega arith)

-- and where that is said of every place of the script
pub all_after : (found : List Successors) (shapes : List control.Shape) → length found ≡ length shapes →
    ((k : ℕ) → k < length shapes → places_at found k ≡ successors shapes k) → ArePaths shapes found
all_after found shapes size below p =
    ⊎_elim
    (λ within. below p within.1)
    (λ past.
    let over : length found ≤ p = let le : length shapes ≤ p = past.0 in omega arith in
    let none : slice_get found p ≡ None = slice_get_past found p over in
    let nowhere : slice_get shapes p ≡ None = past.1 in
    rw (none, nowhere) refl)
    (slice_get_cases shapes p).1

-- the open blocks after one more place
pub open_more : (xs : List Shape) (p : ℕ) (d : Shape) (old new : List (Option ℕ)) → p < length xs → old ≡ open_at (map shape_view xs) p →
    new ≡ opened p old (Some (shape_view (get_or xs p d))) → new ≡ open_at (map shape_view xs) (p + 1)
open_more xs p d old new lt is e =
    let there : slice_get (map shape_view xs) p ≡ Some (shape_view (get_or xs p d)) = shape_there xs p (get_or xs p d) d lt refl in
    rw (add-one, there, ← is) e

pub reported_more : (found new : List Successors) (b : Successors) (f : ℕ → List ℕ) (p : ℕ) → length found ≡ p → new ≡ found ++ b ∷ [] →
    ((k : ℕ) → k < p → places_at found k ≡ f k) → places b ≡ f p → (k : ℕ) → k < p + 1 → places_at new k ≡ f k
reported_more found new b f p size is below here k lt = rw is (pushed found b f (λ n h. below n (omega arith)) (here ∙ ap f (sym size)) k
    (omega arith))
