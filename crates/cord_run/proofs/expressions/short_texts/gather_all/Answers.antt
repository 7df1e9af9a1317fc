use Rattle.cord_run.proofs.Common.{rules, length, subst, expr_view, IsTextIn, ◌≤◌}
use Rattle.cord_plan.specs.declared.expressions.Expr.{Expr}
use Rattle.cord_run.proofs.ShortTexts.{gathered_all, gathered_more, gathered_none}
use Rattle.cord_run.proofs.expressions.short_texts.gather_all.Goals as goal

pub loop-member-init : goal.loop-member-init
loop-member-init c = record {
  gathered = gathered_none c.args.store.now.entries.items c.args.text.now.items c.args.members.now;
  short = c.requires;
}

pub loop-member-preserved : goal.loop-member-preserved
loop-member-preserved c =
    let short : length c.try_extend_from_slice.new.self.items ≤ 256 = search rules in
    record {
      gathered = gathered_more c.args.store.now.entries.items c.args.text.now.items c.args.members.now c.loop-member.member-index
          c.member-item.result
          c.loop-member-test.true c.member-item.is c.loop-member.text.items c.in-Some.slice.now c.try_extend_from_slice.new.self.items
          (subst (λ (e : Expr). IsTextIn c.args.store.now.entries.items (expr_view e) c.in-Some.slice.now) c.as_ref.ensures
          c.in-Some.ensures) c.in-Ok.ensures.ok c.loop-member.invariant.gathered;
      short = short;
    }

pub returns : goal.returns
returns c = λ done. (
  gathered_all c.args.store.now.entries.items c.args.text.now.items c.args.members.now c.loop-member.member-index c.loop-member.text.items
      c.loop-member-test.false c.loop-member.invariant.gathered,
  c.loop-member.invariant.short,
)
