-- Where a byte stands that has some of its kind before it.
use Rattle.std.specs.Prelude.{◌≡◌, ℕ, ◌<◌, ◌==◌, List, Some, length, take, slice_get}
use Rattle.std.specs.List.{count_by}

-- the place has the byte, and so many like it come before it
pub record IsNth (x : List ℕ) (byte n place : ℕ) : Type 0 where
  pub inside : place < length x
  pub here : slice_get x place ≡ Some byte
  pub before : count_by (λ own. own == byte) (take place x) ≡ n
