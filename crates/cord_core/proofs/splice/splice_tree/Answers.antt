use Rattle.std.proofs.Common.{◌≡◌, arith, sym, subst, ◌++◌}
use Rattle.std.proofs.lemmas.Grind.{common_steps}
use Rattle.cord_node.specs.PartsFrom.{AreFrom}
use Rattle.cord_core.specs.contracts.Cord.{the_view}
use Rattle.cord_core.specs.Cord.{parts_of}
use Rattle.cord_core.proofs.Splices.{old_parts, new_parts}
use Rattle.cord_core.proofs.splice.splice_tree.Goals as goal

pub returns-then-until-len-clause-from_there : goal.returns-then-until-len-clause-from_there
returns-then-until-len-clause-from_there c =
    let e : the_view c.all.inside ≡ c.args.middle.now = grind (arith, common_steps) in
    subst (λ n. AreFrom (parts_of n) (parts_of c.args.cord.now ++ parts_of c.args.middle.now)) (sym e)
    (new_parts (parts_of c.args.cord.now) (parts_of c.args.middle.now))

pub returns-then-len-eq0-clause-from_there : goal.returns-then-len-eq0-clause-from_there
returns-then-len-eq0-clause-from_there c = old_parts (parts_of c.args.cord.now) (parts_of c.args.middle.now)
