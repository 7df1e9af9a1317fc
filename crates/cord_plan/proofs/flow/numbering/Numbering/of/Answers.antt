use Rattle.std.specs.Prelude.{◌≡◌, ◌+◌, ◌<◌}
use Rattle.cord_plan.proofs.Common.{length, arith, length-append, ap, ◌∙◌, slice_get_within}
use Rattle.cord_plan.proofs.Numbers.{lines_more, none_distinct}
use Rattle.cord_plan.proofs.flow.numbering.Numbering.of.Goals as goal

pub loop-statement-init : goal.loop-statement-init
loop-statement-init c = record {
  distinct = rw c.new-names.ensures.items none_distinct;
  size = ap length c.in_ok-lines.ensures.items;
  reported = λ p l lt there. absurd (omega (arith, lt));
}

pub loop-statement-preserved : goal.loop-statement-preserved
loop-statement-preserved c =
    let adds = c.in_ok-add_line.ensures in
    let size : length c.loop-statement.lines.items ≡ c.loop-statement.statement-index = c.loop-statement.invariant.size in
    record {
      distinct = adds.grows.distinct c.loop-statement.invariant.distinct;
      size = ap length c.in_ok-push.ensures.items ∙ length-append c.loop-statement.lines.items _ ∙ ap (λ n. n + 1) size;
      reported = rw c.in_ok-push.ensures.items
          (lines_more c.args.statements.now c.loop-statement.statement-index c.statement-item.result c.loop-statement.names.items
          c.add_line.new.names.items c.loop-statement.read.items c.add_line.new.read.items c.loop-statement.lines.items
          c.in_ok-add_line.field-0 size c.loop-statement-test.true c.statement-item.is adds c.loop-statement.invariant.reported);
    }

pub returns : goal.returns
returns c = λ p l there.
    let within : p < length c.args.statements.now = slice_get_within c.args.statements.now p l there in
    c.loop-statement.invariant.reported p l (omega (arith, within, c.loop-statement-test.false)) there
