use Rattle.std.proofs.Common.{◌≡◌, ◌∙◌, ◌+◌, ◌++◌, ℕ, List, take, drop, ap, arith}
use Rattle.cord.specs.Plain.{grown_bytes}
use Rattle.cord.proofs.Editors.{edited_by, bytes_edited}
use Rattle.cord.proofs.editor.TextEditor.insert_bytes.Goals as goal

pub invariant_of-self-2 : goal.invariant_of-self-2
invariant_of-self-2 c = edited_by _ _ _ _ _ c.self.invariant c.in_ok-insert.ensures.over

pub returns-clause-text : goal.returns-clause-text
returns-clause-text c =
    let old : List ℕ = grown_bytes c.self.inside.buffer.text in
    let here : c.args.at + 0 ≡ c.args.at = omega arith in
    bytes_edited _ _ _ _ _ c.self.invariant c.in_ok-insert.ensures.over
    ∙ ap (λ (n : ℕ). take c.args.at old ++ c.args.bytes.now ++ drop n old) here
    ∙ ap (λ (xs : List ℕ). take c.args.at xs ++ c.args.bytes.now ++ drop c.args.at xs) c.self.view_is
