-- The prefix of a source.
use Rattle.std.specs.Prelude.{◌≡◌, ◌≤◌}
use Rattle.cord_meaning.proofs.Common.{ℕ, take, sym, arith}
use Rattle.cord_io.specs.FunctionTexts.{text_of}
use Rattle.cord_io.proofs.FunctionRanges.{range-text_of}

-- the first n bytes of a text of a function are its text of n bytes
pub prefix_of_text : (f : ℕ → ℕ) (m n : ℕ) → n ≤ m → text_of f n ≡ take n (text_of f m)
unfolding text_of
prefix_of_text f m n le = sym (range-text_of f m 0 n (omega arith))
