use Rattle.std.specs.Prelude.{[]}
use Rattle.tests.proofs.tests.marks.fresh.Given as goal

abbrev pub ghost-new : goal.ghost-new
ghost-new a = []
