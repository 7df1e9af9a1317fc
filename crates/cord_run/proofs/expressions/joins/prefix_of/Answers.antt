use Rattle.cord_run.proofs.Common.{rules, arith, subst, IsLeafOf}
use Rattle.cord_run.proofs.Joins.{leaf_before, one_preceding}
use Rattle.cord_run.proofs.expressions.joins.prefix_of.Goals as goal

pub returns-then-short-gt1 : goal.returns-then-short-gt1
returns-then-short-gt1 c = leaf_before c.args.cords.now c.short_leaves-short.result.count c.short_leaves-short.result.bytes.items
    c.in_ok-cord.cord c.short_leaves-short.ensures (omega (arith, c.if-short-gt1.true)) c.in_ok-cord.ensures.sound
    (subst (λ bytes. IsLeafOf bytes c.in_ok-cord.cord) c.deref.ensures.0 c.in_ok-cord.ensures.form)

pub returns : goal.returns
returns c = one_preceding c.args.cords.now c.in_ok-cord-2.cord c.requires (search rules) (search rules)
