use Rattle.cord_core.specs.Cord.{parts_of}
use Rattle.cord_edit.proofs.Parting.{leaves_put}
use Rattle.cord_edit.proofs.buffer.put_leaves.Goals as goal

pub returns-clause-gathered : goal.returns-clause-gathered
returns-clause-gathered c = λ k few. leaves_put c.args.cords.now.parts (parts_of c.in_ok-leaves.leaves) c.splice.new.self.parts k
    (c.in_ok-leaves.ensures.gathered k few) c.in_ok-splice.ensures.spliced.gathered
