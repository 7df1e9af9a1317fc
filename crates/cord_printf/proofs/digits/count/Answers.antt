use Rattle.std.proofs.Common.{arith}
use Rattle.cord_printf.proofs.Figures.{digits_room, digits_shorter}
use Rattle.cord_printf.proofs.digits.count.Goals as goal

pub digits-preserved : goal.digits-preserved
digits-preserved c = rw c.base-base.ensures
    (omega (arith, digits_shorter c.args.radix c.digits.rest c.digits-test.true, c.digits.invariant))

pub overflow_add-count : goal.overflow_add-count
overflow_add-count c = omega (
  arith,
  digits_room c.args.radix c.args.number c.ranges.number.fits,
  digits_shorter c.args.radix c.digits.rest c.digits-test.true,
  c.digits.invariant,
)
