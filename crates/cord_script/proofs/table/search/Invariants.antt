use Rattle.std.specs.Prelude.{◌≡◌}
use Rattle.cord_script.proofs.Common.{drop, kind_of}
use Rattle.cord_script.proofs.table.search.Given as goal

abbrev pub invariant-loop-entry : goal.invariant-loop-entry
invariant-loop-entry l = kind_of l.known l.name ≡ kind_of (drop l.entry-index l.known) l.name
