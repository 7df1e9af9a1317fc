use Rattle.std.proofs.Common.{◌≡◌, ◌≤◌, ◌++◌, length, map, drop}
use Rattle.std.specs.Int.Digits.{digits_of}
use Rattle.cord_printf.specs.PieceText.{base_of, figure}
use Rattle.cord_printf.proofs.digits.in_base.Given as goal

-- what is left to write stands in front of what is written, and has room
abbrev pub invariant-digits : goal.invariant-digits
invariant-digits l = record {
  written : map (figure l.radix) (digits_of (base_of l.radix) l.number) ≡ map (figure l.radix) (digits_of (base_of l.radix) l.rest)
      ++ drop l.start l.bytes;
  room : length (digits_of (base_of l.radix) l.rest) ≤ l.start;
  within : l.start ≤ length l.bytes;
  size : length l.bytes ≡ 22;
}

abbrev pub decreases-digits : goal.decreases-digits
decreases-digits l = l.rest
