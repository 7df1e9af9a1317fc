use Rattle.std.proofs.Common.{ap, ◌∙◌, List, ℕ}
use Rattle.std.specs.List.{repeat}
use Rattle.cord.specs.Plain.{no_table}
use Rattle.cord.proofs.PlainTexts.{plain_of}
use Rattle.cord.proofs.Repeating.{repeated_has}
use Rattle.cord.proofs.text.Text.repeated.Goals as goal

pub invariant_of-result : goal.invariant_of-result
invariant_of-result c = plain_of _ c.in_ok-cord.cord c.in_ok-cord.ensures.sound
    (repeated_has c.args.times c.self.inside.cord c.in_ok-cord.cord c.self.invariant c.in_ok-cord.ensures.over)

pub returns-clause-text : goal.returns-clause-text
returns-clause-text c =
    (repeated_has c.args.times c.self.inside.cord c.in_ok-cord.cord c.self.invariant c.in_ok-cord.ensures.over).bytes no_table
    ∙ ap (λ (x : List ℕ). repeat c.args.times x) c.self.view_is
