use Rattle.cord_script.proofs.Common.{arith}
use Rattle.cord_script.proofs.Magnitudes.{stops_at}
use Rattle.cord_script.proofs.numerals.magnitude.Goals as goal

pub returns-then-value : goal.returns-then-value
returns-then-value c = stops_at c.args.digits.now c.loop-digit.digit-index c.loop-digit.value (omega arith)
    (omega (arith, c.if-value.true)) c.loop-digit.invariant.rest
