use Rattle.cord_plan.proofs.Common.{List, sym, ◌∙◌, at_drop_all, Statement, later_in}
use Rattle.cord_plan.proofs.StraightLineReads.{assigned_here, passed_here, read_here}
use Rattle.cord_plan.proofs.flow.liveness.is_read_in.Goals as goal

pub returns-then-reads : goal.returns-then-reads
returns-then-reads c = sym (c.loop-statement.invariant
    ∙ read_here _ _ _ _ c.loop-statement-test.true c.statement-item.is (sym c.reads.ensures ∙ c.if-reads.true))

pub returns-then-assigns : goal.returns-then-assigns
returns-then-assigns c = sym (c.loop-statement.invariant ∙ assigned_here _ _ _ _ c.loop-statement-test.true c.statement-item.is
    (sym c.reads.ensures ∙ c.if-reads.false) (sym c.assigns.ensures ∙ c.if-assigns.true))

pub loop-statement-preserved : goal.loop-statement-preserved
loop-statement-preserved c = c.loop-statement.invariant ∙ passed_here _ _ _ _ c.loop-statement-test.true c.statement-item.is
    (sym c.reads.ensures ∙ c.if-reads.false) (sym c.assigns.ensures ∙ c.if-assigns.false)

pub returns : goal.returns
returns c = sym (c.loop-statement.invariant
    ∙ at_drop_all (λ (ls : List Statement). later_in ls c.args.name.now) _ _ c.loop-statement-test.false)
