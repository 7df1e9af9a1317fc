use Rattle.cord_run.proofs.Common.{ℕ, List, subst, rules, take-replicate, HasText, ◌≤◌}
use Rattle.cord_run.proofs.Ranges.{copies_text}
use Rattle.cord_run.proofs.expressions.ranges.copies_of.Goals as goal

pub returns-in-Ok-clause-made : goal.returns-in-Ok-clause-made
returns-in-Ok-clause-made c =
    let few : c.args.count ≤ 64 = search rules in
    copies_text c.args.byte c.args.count c.in-Ok.cord c.requires.short
    (subst (λ (bytes : List ℕ). HasText bytes c.in-Ok.cord) (take-replicate c.args.count 64 c.args.byte few) c.in-Ok.ensures.over)
    c.in-Ok.ensures.sound
