-- Ranges of a text.
use Rattle.std.proofs.Common.{◌≡◌, ℕ, ◌-◌, ◌≤◌, List, [], length, take, drop, refl, zero, suc, length-drop}
use Rattle.std.specs.Prelude.{min}
use Rattle.std.proofs.lemmas.List.{take_min, drop_all}
use Rattle.cord_node.proofs.TreeLemmas.{length-cells}

-- a range that ends at the end of the list
pub range_min : {X : Type 0} (xs : List X) (i n m : ℕ) → length xs ≡ m → take (min n (m - i)) (drop i xs) ≡ take n (drop i xs)
range_min xs i n m e = rw (← e, ← length-drop i xs) (take_min n (drop i xs))

-- a range of nothing
pub take_nothing : {X : Type 0} (xs : List X) (n : ℕ) → n ≡ 0 → take n xs ≡ []
take_nothing xs n e = rw e refl

-- a prefix of nothing
pub take_of_nil : {X : Type 0} (xs : List X) (n : ℕ) → xs ≡ [] → take n xs ≡ []
take_of_nil xs zero e = refl
take_of_nil xs (suc n) e = rw e refl

-- a range past the end
pub range_past : {X : Type 0} (xs : List X) (i n : ℕ) → length xs ≤ i → take n (drop i xs) ≡ []
range_past xs i n h = take_of_nil (drop i xs) n (drop_all i xs h)

pub ruleset ranges = (range_min, take_nothing, range_past, length-cells)
