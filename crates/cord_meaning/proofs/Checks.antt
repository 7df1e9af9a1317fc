-- The checks of numbers, as a runner makes them.
use Rattle.std.specs.Prelude.{◌≡◌, ◌<◌, if◌then◌else◌}
use Rattle.cord_meaning.proofs.Common.{ℕ, Bool, Ok, Err, ap, lt-leb, TooLong, as_length}

-- a length above the limit
pub length_above : (limit n : ℕ) → limit < n → as_length limit n ≡ Err TooLong
length_above limit n lt = ap (λ (v : Bool). if v then Ok n else Err TooLong) (lt-leb n limit lt)
