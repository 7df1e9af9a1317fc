use Rattle.std.proofs.Common.{◌≡◌, arith, rules}
use Rattle.std.specs.Prelude.{Some}
use Rattle.std.proofs.lemmas.Grind.{common_steps}
use Rattle.cord_core.specs.Cord.{text, text_len}
use Rattle.cord_core.proofs.OverLemmas.{same_over}
use Rattle.cord_core.proofs.Cord.balance.Goals as goal

pub returns-clause-text : goal.returns-clause-text
returns-clause-text c = let e : text (Some c.in_ok-node.node.value) ≡ text c.args.self.now = grind (arith, common_steps) in e

pub returns-clause-len : goal.returns-clause-len
returns-clause-len c = let e : text_len (Some c.in_ok-node.node.value) ≡ text_len c.args.self.now = grind (arith, common_steps) in e

pub returns-clause-over : goal.returns-clause-over
returns-clause-over c = same_over c.args.self.now (Some c.in_ok-node.node.value) c.in_ok-node.ensures.sound (returns-clause-text c)

pub returns-clause-slot : goal.returns-clause-slot
returns-clause-slot c = search rules

pub returns-clause-part_slot : goal.returns-clause-part_slot
returns-clause-part_slot c = search rules

pub returns-clause-parts_from : goal.returns-clause-parts_from
returns-clause-parts_from c = search rules
