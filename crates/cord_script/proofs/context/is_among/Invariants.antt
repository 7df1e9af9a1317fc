use Rattle.std.specs.Prelude.{◌≡◌}
use Rattle.cord_script.proofs.Common.{drop, is_among}
use Rattle.cord_script.proofs.context.is_among.Given as goal

abbrev pub invariant-loop-known : goal.invariant-loop-known
invariant-loop-known l = is_among l.paths l.path ≡ is_among (drop l.known-index l.paths) l.path
