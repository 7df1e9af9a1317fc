use Rattle.cord_core.specs.Cord.{parts_of}
use Rattle.cord_core.proofs.Splices.{balanced_parts, cut_parts, cut_few}
use Rattle.cord_core.proofs.splice.spliced_balanced.Goals as goal

pub returns-then-has_room-clause-from_there : goal.returns-then-has_room-clause-from_there
returns-then-has_room-clause-from_there c = balanced_parts (parts_of c.args.cord.now) (parts_of c.args.middle.now)
    (parts_of c.in_ok-changed.changed) (parts_of c.in_ok-middle.middle) (parts_of c.splice_tree.new.cord)
    c.in_ok-changed.ensures.parts_from.from_there c.in_ok-middle.ensures.parts_from.from_there c.in_ok-splice_tree.ensures.from_there

pub returns-clause-from_there : goal.returns-clause-from_there
returns-clause-from_there c = balanced_parts (parts_of c.args.cord.now) (parts_of c.args.middle.now)
    (parts_of c.in_ok-changed.changed) (parts_of c.in_ok-middle.middle) (parts_of c.in_ok-all.all)
    c.in_ok-changed.ensures.parts_from.from_there c.in_ok-middle.ensures.parts_from.from_there
    (cut_parts (parts_of c.in_ok-changed.changed) (parts_of c.in_ok-middle.middle) (parts_of c.in_ok-prefix.prefix)
    (parts_of c.in_ok-back.back) (parts_of c.in_ok-all.all) c.in_ok-prefix.ensures.parts_from.from_there
    c.in_ok-back.ensures.parts_from.from_there c.in_ok-all.ensures.from_there)

pub returns-clause-few : goal.returns-clause-few
returns-clause-few c = cut_few c.args.from c.args.until _ (parts_of c.args.cord.now) (parts_of c.args.middle.now)
    (parts_of c.in_ok-changed.changed) (parts_of c.in_ok-middle.middle) (parts_of c.in_ok-prefix.prefix)
    (parts_of c.in_ok-back.back) (parts_of c.in_ok-all.all) c.requires.order c.in_ok-changed.ensures.parts_from
    c.in_ok-middle.ensures.parts_from c.in_ok-prefix.ensures.few c.in_ok-back.ensures.few c.in_ok-all.ensures.few
