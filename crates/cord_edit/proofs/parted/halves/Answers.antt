use Rattle.std.proofs.Common.{◌++◌, arith, rules}
use Rattle.std.proofs.lemmas.Grind.{common_steps}
use Rattle.cord_node.proofs.PartsFromLemmas.{AreFrom-trans}
use Rattle.cord_core.specs.Cord.{parts_of}
use Rattle.cord_edit.proofs.Halves.{halves_few, at_seam}
use Rattle.cord_edit.proofs.parted.halves.Goals as goal

pub returns-then-from-len-clause-halves : goal.returns-then-from-len-clause-halves
returns-then-from-len-clause-halves c = at_seam c.args.prefix.now c.args.back.now c.in_ok-prefix.prefix c.in_ok-back.back c.args.from
    c.args.until c.in_ok-prefix.ensures.same c.in_ok-back.ensures.same c.in_ok-prefix.ensures.sound c.in_ok-back.ensures.sound
    (grind (arith, common_steps)) (grind (arith, common_steps))

pub returns-clause-halves : goal.returns-clause-halves
returns-clause-halves c = record {
  prefix = grind (arith, common_steps);
  back = grind (arith, common_steps);
  prefix_sound = c.in_ok-prefix-2.ensures.sound;
  back_sound = c.in_ok-back-2.ensures.sound;
  prefix_len = omega (arith, c.in_ok-prefix-2.ensures.len, c.in_ok-all.ensures.len, c.requires.order, c.requires.inside);
  back_len = search rules;
  few = halves_few c.args.from c.args.until _ (parts_of c.args.prefix.now ++ parts_of c.args.back.now) (parts_of c.in_ok-all.all)
      (parts_of c.in_ok-prefix-2.prefix) (parts_of c.in_ok-back-2.back) c.requires.order c.in_ok-all.ensures.parts_from
      c.in_ok-prefix-2.ensures.few c.in_ok-back-2.ensures.few;
  prefix_from = AreFrom-trans _ (parts_of c.in_ok-all.all) _ c.in_ok-prefix-2.ensures.parts_from.from_there
      c.in_ok-all.ensures.parts_from.from_there;
  back_from = AreFrom-trans _ (parts_of c.in_ok-all.all) _ c.in_ok-back-2.ensures.parts_from.from_there
      c.in_ok-all.ensures.parts_from.from_there;
}
