use Rattle.std.proofs.Common.{◌∙◌, ◌++◌, ap}
use Rattle.cord_core.specs.Cord.{parts_of}
use Rattle.cord_ec.specs.Gathered.{Growth, IsGathered}
use Rattle.cord_ec.proofs.Leaves.{gathered_own}
use Rattle.cord_ec.proofs.MadeLemmas.{made_from}
use Rattle.cord_edit.proofs.Parting.{as_seen}
use Rattle.cord_edit.proofs.parted.Parted.to_cord.Goals as goal

pub returns-clause-made : goal.returns-clause-made
returns-clause-made c = record {
  text = c.in_ok-cord.ensures.text ∙ ap (λ (e : Growth). e.text) c.self.view_is;
  sound = c.in_ok-cord.ensures.sound;
  gathered = as_seen c.self.view_is
      (made_from IsGathered gathered_own (parts_of c.self.inside.prefix ++ parts_of c.self.inside.back) (parts_of c.in_ok-cord.cord)
      c.in_ok-cord.ensures.parts_from);
}
