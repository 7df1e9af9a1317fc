use Rattle.std.proofs.Common.{refl}
use Rattle.cord_balance.specs.Fib.{fib_of}
use Rattle.cord_balance.proofs.fib.Goals as goal

pub loop-init : goal.loop-init
unfolding fib_of
loop-init c = record { low = refl; high = refl }
