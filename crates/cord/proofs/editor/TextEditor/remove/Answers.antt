use Rattle.std.proofs.Common.{◌∙◌, ◌+◌, ◌++◌, ℕ, List, take, drop, ap, append-nil}
use Rattle.cord.specs.Plain.{grown_bytes}
use Rattle.cord.proofs.Editors.{edited_by, bytes_edited}
use Rattle.cord.proofs.editor.TextEditor.remove.Goals as goal

pub invariant_of-self-2 : goal.invariant_of-self-2
invariant_of-self-2 c = edited_by _ _ _ _ _ c.self.invariant (rw c.in_ok-within_memory.ensures.made at c.remove.ensures.over)

pub returns-clause-text : goal.returns-clause-text
returns-clause-text c =
    let old : List ℕ = grown_bytes c.self.inside.buffer.text in
    let end : ℕ = c.args.start + c.args.count in
    bytes_edited _ _ _ _ _ c.self.invariant (rw c.in_ok-within_memory.ensures.made at c.remove.ensures.over)
    ∙ ap (λ (ys : List ℕ). ys ++ drop end old) (append-nil (take c.args.start old))
    ∙ ap (λ (xs : List ℕ). take c.args.start xs ++ drop end xs) c.self.view_is
