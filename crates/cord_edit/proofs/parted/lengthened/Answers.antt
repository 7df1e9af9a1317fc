use Rattle.std.proofs.Common.{◌∙◌, ◌++◌}
use Rattle.cord_node.proofs.PartsFromLemmas.{PartsFrom-trans}
use Rattle.cord_core.specs.Cord.{parts_of}
use Rattle.cord_edit.proofs.parted.lengthened.Goals as goal

pub returns-clause-made : goal.returns-clause-made
returns-clause-made c = record {
  text = c.in_ok-balanced.ensures.text ∙ c.in_ok-longer.ensures.text;
  len = c.in_ok-balanced.ensures.len ∙ c.in_ok-longer.ensures.len;
  sound = c.in_ok-balanced.ensures.sound;
  parts_from = PartsFrom-trans (parts_of c.args.prefix.now ++ parts_of c.args.middle.now) (parts_of c.in_ok-longer.longer)
      (parts_of c.in_ok-balanced.balanced) c.in_ok-longer.ensures.parts_from c.in_ok-balanced.ensures.parts_from;
}
