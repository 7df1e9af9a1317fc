use Rattle.std.specs.Prelude.{◌+◌}
use Rattle.cord_plan.proofs.Common.{ap, ◌∙◌, to_end, to_else}
use Rattle.cord_plan.specs.declared.flow.successors.Shape.TheVariants.{Straight}
use Rattle.cord_plan.proofs.Followers.{shape_there, shapes_after, jump_simple, jump_loop, jump_branch, jump_otherwise, jump_close}
use Rattle.cord_plan.proofs.flow.successors.jump.Goals as goal

pub returns-in-Straight : goal.returns-in-Straight
returns-in-Straight c = jump_simple _ _ (shape_there _ _ _ Straight c.requires c.in-Straight.is)

pub returns-in-Loop : goal.returns-in-Loop
returns-in-Loop c = jump_loop _ _ _ (shape_there _ _ _ Straight c.requires c.in-Loop.is)
    (c.to_end.ensures.count ∙ ap (to_end 0) (shapes_after c.args.shapes.now (c.args.place + 1)))

pub returns-in-Branch : goal.returns-in-Branch
returns-in-Branch c = jump_branch _ _ _ (shape_there _ _ _ Straight c.requires c.in-Branch.is)
    (c.to_else.ensures.count ∙ ap (to_else 0) (shapes_after c.args.shapes.now (c.args.place + 1)))

pub returns-in-Otherwise : goal.returns-in-Otherwise
returns-in-Otherwise c = jump_otherwise _ _ _ (shape_there _ _ _ Straight c.requires c.in-Otherwise.is)
    (c.to_end-in-Otherwise.ensures.count ∙ ap (to_end 0) (shapes_after c.args.shapes.now (c.args.place + 1)))

pub returns-in-Close : goal.returns-in-Close
returns-in-Close c = jump_close _ _ (shape_there _ _ _ Straight c.requires c.in-Close.is)
