use Rattle.std.specs.Prelude.{◌<◌}
use Rattle.cord_plan.proofs.Common.{map, ◌∙◌, sym, arith, shape_view}
use Rattle.cord_plan.specs.declared.flow.successors.Shape.TheVariants.{Straight}
use Rattle.cord_plan.proofs.Followers.{shape_there, after_simple, after_loop, after_branch, after_otherwise, after_branch_end}
use Rattle.cord_plan.proofs.Followers.{after_loop_end, block_below}
use Rattle.cord_plan.proofs.flow.successors.successors_at.Goals as goal

pub overflow_add-body : goal.overflow_add-body
overflow_add-body c =
    let before : c.in-Some.repeat < c.args.p = block_below _ _ _ (sym c.in-Some.is ∙ c.requires.block) in
    omega arith

pub returns-in-Straight : goal.returns-in-Straight
returns-in-Straight c = after_simple _ _ (shape_there _ _ _ Straight c.requires.within c.in-Straight.is)

pub returns-in-Loop : goal.returns-in-Loop
returns-in-Loop c = after_loop _ _ _ (shape_there _ _ _ Straight c.requires.within c.in-Loop.is) c.jump.ensures

pub returns-in-Branch : goal.returns-in-Branch
returns-in-Branch c = after_branch _ _ _ (shape_there _ _ _ Straight c.requires.within c.in-Branch.is) c.jump-in-Branch.ensures

pub returns-in-Otherwise : goal.returns-in-Otherwise
returns-in-Otherwise c =
    after_otherwise (map shape_view c.args.shapes.now) c.args.p _
    (shape_there _ _ _ Straight c.requires.within c.in-Otherwise.is) c.jump-in-Otherwise.ensures

pub returns-in-None : goal.returns-in-None
returns-in-None c = after_branch_end _ _ (shape_there _ _ _ Straight c.requires.within c.in-Close.is)
    (sym c.in-None.is ∙ c.requires.block)

pub returns-in-Some : goal.returns-in-Some
returns-in-Some c = after_loop_end _ _ _ (shape_there _ _ _ Straight c.requires.within c.in-Close.is)
    (sym c.in-Some.is ∙ c.requires.block)
