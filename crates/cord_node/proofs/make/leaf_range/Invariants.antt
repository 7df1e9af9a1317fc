use Rattle.std.specs.Prelude.{[], ◌∷◌}
use Rattle.std.specs.Rc.{rc_slice_items}
use Rattle.cord_node.specs.PartsFrom.{leaf_part}
use Rattle.cord_node.proofs.make.leaf_range.Given as goal

abbrev pub ghost-new : goal.ghost-new
ghost-new a = leaf_part (rc_slice_items a._one.now) a._other.now.0 a._other.now.1 ∷ []
