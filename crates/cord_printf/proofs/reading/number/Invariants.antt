use Rattle.std.proofs.Common.{◌≡◌, ◌+◌, take, min}
use Rattle.cord_printf.specs.declared.TheConstants.{MAX_WIDTH}
use Rattle.cord_printf.specs.Pieces.{number_of}
use Rattle.cord_printf.proofs.reading.number.Given as goal

-- the value so far, or one past the greatest
abbrev pub invariant-loop-digit : goal.invariant-loop-digit
invariant-loop-digit l = l.value ≡ min (number_of (take l.digit-index l.digits)) (MAX_WIDTH + 1)
