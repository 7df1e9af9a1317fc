use Rattle.std.proofs.Common.{arith}
use Rattle.cord_printf.proofs.Numbers.{number_of-take}
use Rattle.cord_printf.proofs.reading.number.Goals as goal

pub loop-digit-preserved : goal.loop-digit-preserved
loop-digit-preserved c = omega (arith, number_of-take c.args.digits.now c.loop-digit.digit-index 0 c.loop-digit-test.true)
