use Rattle.std.proofs.Common.{◌≡◌, List, ◌++◌, map, ap, subst, arith}
use Rattle.std.proofs.lemmas.Grind.{common_steps}
use Rattle.cord_node.specs.Tree.{Cell, known}
use Rattle.cord_node.specs.PartsFrom.{Part, PartsFrom}
use Rattle.cord_core.specs.Cord.{text, parts_of}
use Rattle.cord_ec.specs.Gathered.{Growth, leaf_parts}
use Rattle.cord_ec.specs.Grown.{IsGrownByCord}
use Rattle.cord_ec.proofs.Growing.{grown_by_cord}
use Rattle.cord_ec.proofs.Leaves.{cord_added}
use Rattle.cord_ec.proofs.ext.ExtCord.append_cord.Goals as goal

pub returns-clause-over : goal.returns-clause-over
returns-clause-over c =
    let before : List Cell = text c.self.inside.cord ++ map known c.self.inside.buffer in
    let after : List Cell = text c.in_ok-longer.longer ++ map known c.clear.new.self in
    let grown : after ≡ before ++ text c.args.cord.now = grind (arith, common_steps) in
    subst (λ (xs : List Cell). IsGrownByCord xs after c.args.cord.now) (ap (λ (g : Growth). g.text) c.self.view_is)
    (grown_by_cord before after c.args.cord.now grown)

pub returns-clause-parts_from : goal.returns-clause-parts_from
returns-clause-parts_from c =
    let before : List Part = parts_of c.self.inside.cord ++ leaf_parts c.self.inside.buffer in
    let x : List Part = parts_of c.args.cord.now in
    let longer : List Part = parts_of c.in_ok-longer.longer in
    subst (λ (old : List Part). PartsFrom (old ++ x) (longer ++ leaf_parts c.clear.new.self)) (ap (λ (g : Growth). g.parts) c.self.view_is)
    (cord_added before (parts_of c.in_ok-so_far.so_far) x longer c.clear.new.self c.clear.ensures c.in_ok-so_far.ensures.parts_from
    c.in_ok-longer.ensures.parts_from)
