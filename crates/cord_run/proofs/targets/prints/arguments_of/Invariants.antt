use Rattle.cord_run.proofs.Common.{map, take, argument_in, ◌≡◌}
use Rattle.cord_run.proofs.targets.prints.arguments_of.Given as goal

abbrev pub invariant-loop-argument : goal.invariant-loop-argument
invariant-loop-argument l = l.args.items ≡ map (λ argument. argument_in l.store.entries.items argument) (take l.argument-index l.arguments)
