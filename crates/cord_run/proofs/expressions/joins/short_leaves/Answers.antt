use Rattle.cord_run.proofs.Common.{rules, refl, ap, ℕ, ◌+◌}
use Rattle.cord_run.proofs.Joins.{more_preceding, none_preceding}
use Rattle.cord_run.proofs.expressions.joins.short_leaves.Goals as goal

pub loop-cord-init : goal.loop-cord-init
loop-cord-init c = record {
  prefix = none_preceding c.args.cords.now c.new-bytes.result.items (search rules);
  counted = refl;
}

pub loop-cord-preserved : goal.loop-cord-preserved
loop-cord-preserved c = record {
  prefix = more_preceding c.args.cords.now c.loop-cord.cord-index c.cord-item.result c.loop-cord-test.true c.cord-item.is
      c.loop-cord.bytes.items c.in-Some.slice.now c.try_extend_from_slice.new.self.items c.in-Some.ensures.text c.in-Some.ensures.len
      c.in-Some.ensures.part c.in-Ok.ensures.ok (search rules) c.loop-cord.invariant.prefix;
  counted = ap (λ (n : ℕ). n + 1) c.loop-cord.invariant.counted;
}
