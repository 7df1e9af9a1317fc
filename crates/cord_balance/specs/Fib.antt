-- Fibonacci numbers and slots.
use Rattle.std.specs.Prelude.{ℕ, ◌+◌, ◌<◌, ◌≤◌, zero, suc}

-- the number with this index, and the next one
abbrev pub fib_pair : ℕ → ℕ × ℕ
fib_pair zero = (0, 1)
fib_pair (suc n) = ((fib_pair n).1, (fib_pair n).0 + (fib_pair n).1)

-- F_0 = 0, F_1 = 1, and each further one is the sum of the two before it
unfoldable pub fib_of : ℕ → ℕ
fib_of n = (fib_pair n).0

-- the slot for texts of so many bytes or parts
pub record IsSlotOf (len n : ℕ) : Type 0 where
  pub at_least_two : 2 ≤ n
  pub above : fib_of n ≤ len
  pub below : len < fib_of (n + 1)
