use Rattle.std.proofs.Common.{◌∙◌}
use Rattle.cord.specs.Plain.{no_table}
use Rattle.cord.proofs.PlainTexts.{plain_of, same_has}
use Rattle.cord.proofs.text.Text.balance.Goals as goal

pub invariant_of-result : goal.invariant_of-result
invariant_of-result c =
    let made = c.in_ok-cord.ensures.made in
    plain_of _ c.in_ok-cord.cord (rw made at c.balance.ensures.sound)
    (same_has c.self.inside.cord c.in_ok-cord.cord c.self.invariant (rw made at c.balance.ensures.over))

pub returns : goal.returns
returns c =
    let over = rw c.in_ok-cord.ensures.made at c.balance.ensures.over in
    record { text = (same_has c.self.inside.cord c.in_ok-cord.cord c.self.invariant over).bytes no_table ∙ c.self.view_is }
