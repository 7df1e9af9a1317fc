use Rattle.std.specs.Prelude.{◌≡◌, ◌∷◌, ◌++◌}
use Rattle.cord_plan.proofs.Common.{List, ℕ, [], ap, ◌∙◌, rules}
use Rattle.cord_plan.proofs.Numbers.{name_added}
use Rattle.cord_plan.proofs.flow.numbering.number_new.Goals as goal

pub returns : goal.returns
returns c =
    let same : c.in_ok-clone.field-0 ≡ c.args.name.now = let h = c.in_ok-clone.ensures in search rules in
    let is : c.push.new.self.items ≡ c.args.names.now.items ++ c.args.name.now ∷ [] =
    c.in_ok-push.ensures.items ∙ ap (λ (x : List ℕ). c.args.names.now.items ++ x ∷ []) same in
    rw (is, c.in_ok-number.ensures, c.len.ensures, c.args.names.now.ok.0) (name_added c.args.name.now c.args.names.now.items c.requires)
