use Rattle.std.proofs.Common.{map}
use Rattle.cord_node.specs.Tree.{known}
use Rattle.cord_ec.proofs.Growing.{cord_of}
use Rattle.cord_printf.proofs.output.leaf_of.Goals as goal

pub returns-in-Ok-clause-over : goal.returns-in-Ok-clause-over
returns-in-Ok-clause-over c = cord_of (map known c.args.bytes.now) c.in-Ok.cord c.in-Ok.ensures.sound c.in-Ok.ensures.text
