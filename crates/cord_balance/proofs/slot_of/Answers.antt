use Rattle.std.proofs.Common.{refl, arith}
use Rattle.cord_balance.specs.Fib.{fib_of}
use Rattle.cord_balance.proofs.slot_of.Goals as goal

pub loop-high-init : goal.loop-high-init
unfolding fib_of
loop-high-init c = record {
  low = refl;
  high = refl;
  from_two = omega arith;
  positive = omega arith;
  next_positive = omega arith;
  reached = omega arith;
}
