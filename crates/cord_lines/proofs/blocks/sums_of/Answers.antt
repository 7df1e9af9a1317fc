use Rattle.cord_lines.proofs.Common.{ap, arith, length, nat_tests, total_by, ◌<◌, ◌∙◌, ◌≡◌}
use Rattle.std.proofs.lemmas.List.{nil_from_length}
use Rattle.cord_lines.proofs.Sums.{back_within, few_within, first_within, min_prefix, min_back}
use Rattle.cord_lines.proofs.Grouping.{none_so_far, one_group_more, groups_done}
use Rattle.cord_lines.proofs.blocks.sums_of.Goals as goal

pub loop-rest-init : goal.loop-rest-init
loop-rest-init g c = record { groups = rw c.in_ok-sums.ensures.items (none_so_far g.T.Counted.part c.args.parts.now); few = c.requires }

pub sum_of-requires : goal.sum_of-requires
sum_of-requires g c =
    let rest = c.loop-rest.rest.now in
    rw (c.split_at.ensures.front ∙ min_prefix rest 64 c.min.result c.min.ensures) (few_within (first_within g.T.Counted.part rest 64) c.loop-rest.invariant.few)

pub loop-rest-preserved : goal.loop-rest-preserved
loop-rest-preserved g c =
    let rest = c.loop-rest.rest.now in
    let some : 0 < length rest = grind (arith, nat_tests, c.loop-rest-test.true, c.is_empty.ensures) in
    let back = c.split_at.ensures.back ∙ min_back rest 64 c.min.result c.min.ensures in
    record {
      groups = rw c.in_ok-push.ensures.items (one_group_more g.T.Counted.part c.loop-rest.sums.items c.args.parts.now rest c.sum_of.result c.split_at.result.1.now c.loop-rest.invariant.groups some
          (c.sum_of.ensures ∙ ap (total_by g.T.Counted.part) (c.split_at.ensures.front ∙ min_prefix rest 64 c.min.result c.min.ensures)) back);
      few = rw back (few_within (back_within g.T.Counted.part rest 64) c.loop-rest.invariant.few);
    }

pub returns : goal.returns
returns g c =
    let rest = c.loop-rest.rest.now in
    let none : length rest ≡ 0 = grind (arith, nat_tests, c.loop-rest-test.false, c.is_empty.ensures) in
    record { sums = groups_done g.T.Counted.part c.loop-rest.sums.items c.args.parts.now rest c.loop-rest.invariant.groups (nil_from_length rest none) }
