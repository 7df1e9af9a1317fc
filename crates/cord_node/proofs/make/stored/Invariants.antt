use Rattle.std.specs.Prelude.{◌++◌}
use Rattle.cord_node.specs.PartsFrom.{parts}
use Rattle.cord_node.proofs.make.stored.Given as goal

abbrev pub ghost-new : goal.ghost-new
ghost-new a = parts a._one.now.value ++ parts a._other.now.value
