use Rattle.cord_run.proofs.Common.{List, arith, subst, append-nil, Part, PartsFrom, all_parts, parts_of, catting_end, catting_start}
use Rattle.cord_run.proofs.Common.{all_over}
use Rattle.cord_run.proofs.Joins.{prefix_joined, prefix_within, joined_whole}
use Rattle.cord_run.proofs.expressions.joins.join_all.Goals as goal

pub loop-place-init : goal.loop-place-init
loop-place-init c = record {
  catting = catting_start c.args.cords.now c.empty-all.result c.empty-all.ensures;
  within = omega arith;
}

pub loop-place-preserved-in_ok-all : goal.loop-place-preserved-in_ok-all
loop-place-preserved-in_ok-all c = record {
  catting = prefix_joined c.args.cords.now c.loop-place.place c.in_ok-prefix.prefix.count c.in_ok-prefix.prefix.cord c.in_ok-prefix.ensures
      c.loop-place.all c.in_ok-all.all c.loop-place.invariant.catting c.in_ok-all.ensures.sound c.in_ok-all.ensures.text
      c.in_ok-all.ensures.len c.in_ok-all.ensures.parts_from;
  within = prefix_within c.args.cords.now c.loop-place.place c.in_ok-prefix.prefix.count c.in_ok-prefix.prefix.cord c.in_ok-prefix.ensures
      c.loop-place.invariant.within;
}

pub loop-place-preserved : goal.loop-place-preserved
loop-place-preserved c = record {
  catting = prefix_joined c.args.cords.now c.loop-place.place c.in_ok-prefix.prefix.count c.in_ok-prefix.prefix.cord c.in_ok-prefix.ensures
      c.loop-place.all c.in_ok-all.all c.loop-place.invariant.catting c.in_ok-all.ensures.sound c.in_ok-all.ensures.text
      c.in_ok-all.ensures.len c.in_ok-all.ensures.parts_from;
  within = prefix_within c.args.cords.now c.loop-place.place c.in_ok-prefix.prefix.count c.in_ok-prefix.prefix.cord c.in_ok-prefix.ensures
      c.loop-place.invariant.within;
}

pub returns-clause-over : goal.returns-clause-over
returns-clause-over c = all_over c.args.cords.now c.loop-place.all c.loop-place.invariant.catting.sound
    (catting_end c.args.cords.now c.loop-place.all
    (joined_whole c.args.cords.now c.loop-place.place c.loop-place.all c.loop-place-test.false c.loop-place.invariant.catting))

pub returns-clause-sound : goal.returns-clause-sound
returns-clause-sound c = c.loop-place.invariant.catting.sound

pub returns-clause-parts : goal.returns-clause-parts
returns-clause-parts c = subst (λ (ps : List Part). PartsFrom (all_parts c.args.cords.now) ps) (append-nil (parts_of c.loop-place.all))
    (joined_whole c.args.cords.now c.loop-place.place c.loop-place.all c.loop-place-test.false c.loop-place.invariant.catting).parts_from
