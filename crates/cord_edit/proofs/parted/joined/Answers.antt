use Rattle.std.proofs.Common.{◌++◌, List, ◌∙◌, ap, arith, length-append}
use Rattle.cord_node.specs.Tree.{Cell}
use Rattle.cord_core.specs.Cord.{text, parts_of}
use Rattle.cord_core.proofs.Splices.{joined_parts}
use Rattle.cord_edit.proofs.parted.joined.Goals as goal

pub returns-clause-joined : goal.returns-clause-joined
returns-clause-joined c = record {
  text = c.in_ok-all.ensures.text ∙ ap (λ (xs : List Cell). xs ++ text c.args.back.now) c.in_ok-longer.ensures.text;
  sound = c.in_ok-all.ensures.sound;
  from_there = joined_parts (parts_of c.args.prefix.now) (parts_of c.args.middle.now) (parts_of c.args.back.now)
      (parts_of c.in_ok-longer.longer) (parts_of c.in_ok-all.all) c.in_ok-longer.ensures.parts_from.from_there
      c.in_ok-all.ensures.parts_from.from_there;
  few = omega (
    arith,
    c.in_ok-longer.ensures.parts_from.no_more,
    c.in_ok-all.ensures.parts_from.no_more,
    length-append (parts_of c.args.prefix.now) (parts_of c.args.middle.now),
    length-append (parts_of c.in_ok-longer.longer) (parts_of c.args.back.now),
  );
}
