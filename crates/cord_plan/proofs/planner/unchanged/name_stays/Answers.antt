use Rattle.std.specs.Prelude.{◌≡◌}
use Rattle.cord_plan.proofs.Common.{List, ℕ, Option, sym, ap, ◌∙◌, setter, entry_at, is_before}
use Rattle.cord_plan.proofs.Lasts.{stay_by_last}
use Rattle.cord_plan.proofs.planner.unchanged.name_stays.Goals as goal

pub returns : goal.returns
returns c =
    let line = c.args.line.now in
    let s = line.statements.now in
    let x = c.args.name.now in
    let last : c.entry_at.result ≡ setter s x line.place =
    c.entry_at.ensures ∙ (ap (λ (places : List (Option ℕ)). entry_at places c.number_of-number.result) c.deref.ensures.value
    ∙ (ap (λ (o : Option ℕ). entry_at line.recent.now.assigned.items o) c.number_of-number.ensures ∙ c.requires.recent.assigned x)) in
    c.is_before.ensures ∙ (ap (λ (o : Option ℕ). is_before o c.args.from) last ∙ sym (stay_by_last s x c.args.from line.place))
