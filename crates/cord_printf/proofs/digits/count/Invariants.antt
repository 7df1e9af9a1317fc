use Rattle.std.proofs.Common.{◌≡◌, ◌+◌, length}
use Rattle.std.specs.Int.Digits.{digits_of}
use Rattle.cord_printf.specs.PieceText.{base_of}
use Rattle.cord_printf.proofs.digits.count.Given as goal

-- the digits counted and those left are all
abbrev pub invariant-digits : goal.invariant-digits
invariant-digits l = l.count + length (digits_of (base_of l.fn.radix) l.rest) ≡ length (digits_of (base_of l.fn.radix) l.fn.number)

abbrev pub decreases-digits : goal.decreases-digits
decreases-digits l = l.rest
