use Rattle.std.specs.Prelude.{◌/◌}
use Rattle.cord_plan.proofs.Common.{arith}
use Rattle.cord_plan.proofs.LivenessTables.{live_more}
use Rattle.cord_plan.proofs.Pushed.{size_more}
use Rattle.cord_plan.proofs.flow.liveness.groups_of.Goals as goal

pub loop-group-preserved : goal.loop-group-preserved
loop-group-preserved c =
    let group = c.in_ok-live_words.field-0 in
    record {
      size = size_more c.loop-group.groups.items c.push.new.self.items group c.loop-group.group c.in_ok-push.ensures.items c.loop-group.invariant.size;
      live = rw c.in_ok-push.ensures.items (live_more c.args.statements.now c.args.numbering.now c.loop-group.group
          c.loop-group.groups.items group c.loop-group.invariant.size c.loop-group.invariant.live c.in_ok-live_words.ensures);
    }

pub returns : goal.returns
returns c = λ n lt. c.loop-group.invariant.live (n / 128) (omega (arith, lt, c.count.ensures, c.div_ceil-group-end.ensures))
