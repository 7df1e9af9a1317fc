use Rattle.std.specs.Prelude.{◌≡◌}
use Rattle.cord_script.proofs.table.Table.guess.Given as goal

abbrev pub invariant-loop-probe : goal.invariant-loop-probe
invariant-loop-probe l = l.self-inside.known ≡ l.initial.self-inside.known
