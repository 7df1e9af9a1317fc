-- Ranges of texts, over a table.
use Rattle.std.specs.Prelude.{Bool, true, false, ◌≡◌, ◌≢◌, ℕ, ◌<◌, ◌≤◌, List, length, take, drop, Option, Some, slice_get, ℤ, pos, negsuc}
use Rattle.std.specs.Ordering.{nat_cmp}
use Rattle.std.specs.Cmp.Lexicographic.{slice_cmp}
use Rattle.std.specs.declared.cmp.Ordering.{Ordering}
use Rattle.std.specs.declared.cmp.Ordering.TheVariants.{Less, Equal, Greater}
use Rattle.cord_io.specs.Table.{Table, Lengths}
use Rattle.cord_node.specs.declared.Node.{Node}
use Rattle.cord_core.specs.Cord.{bytes_of, IsCord, CordFitsIn}
use Rattle.cord_core.specs.Texts.{StandsAt}

-- the cord is sound, and its function parts lie inside sources of these lengths
pub record IsReadable (lengths : Lengths) (c : Option Node) : Type 0 where
  pub sound : IsCord c
  pub fits : CordFitsIn lengths c

-- the bytes stand in the cord's text from the place on
abbrev pub IsPieceOf : Table → Option Node → ℕ → List ℕ → Type 0
IsPieceOf t c place xs = xs ≡ take (length xs) (drop place (bytes_of t c))

-- the first n bytes of a list are those of the cord's text from the place on
abbrev pub HoldsText : Table → Option Node → ℕ → ℕ → List ℕ → Type 0
HoldsText t c place n xs = take n xs ≡ take n (drop place (bytes_of t c))

-- the answer says whether s stands in the text of x over the table at the place
abbrev pub IsStanding : Table → Option Node → ℕ → Option Node → Bool → Type 0
IsStanding t x place s true = StandsAt (bytes_of t x) (bytes_of t s) place
IsStanding t x place s false = StandsAt (bytes_of t x) (bytes_of t s) place → ⊥

-- the bytes stand in the text of x at no place from i on and below j
abbrev pub StandsNot : Table → Option Node → List ℕ → ℕ → ℕ → Type 0
StandsNot t x s i j = (q : ℕ) → i ≤ q → q < j → StandsAt (bytes_of t x) s q → ⊥

-- the first n bytes from two places are the same
abbrev pub AreSame : Table → Option Node → ℕ → Option Node → ℕ → ℕ → Type 0
AreSame t x i y j n = take n (drop i (bytes_of t x)) ≡ take n (drop j (bytes_of t y))

-- the order of two texts, as what `cmp` answers at lists of bytes, of the first a bytes from one place and the first b from another
abbrev pub IsOrderOf : Table → Option Node → ℕ → ℕ → Option Node → ℕ → ℕ → Ordering → Type 0
IsOrderOf t x i a y j b r = r ≡ slice_cmp nat_cmp (take a (drop i (bytes_of t x))) (take b (drop j (bytes_of t y)))

-- the number that tells an order
abbrev pub sign_of : Ordering → ℤ
sign_of Less = negsuc 0
sign_of Equal = pos 0
sign_of Greater = pos 1

-- the text over the table has the byte c at no place from i on and below j
abbrev pub HasNot : Table → Option Node → ℕ → ℕ → ℕ → Type 0
HasNot t x c i j = (q : ℕ) → i ≤ q → q < j → slice_get (bytes_of t x) q ≢ Some c
