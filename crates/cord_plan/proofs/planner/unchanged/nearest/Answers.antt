use Rattle.std.specs.Prelude.{◌≡◌}
use Rattle.cord_plan.proofs.Common.{List, ℕ, Option, sym, ap, ◌∙◌, setter, entry_at, entry_of, reader, unless_after}
use Rattle.cord_plan.proofs.Lasts.{nearest_by_last}
use Rattle.cord_plan.proofs.planner.unchanged.nearest.Goals as goal

pub returns : goal.returns
returns c = λ x number.
    let line = c.args.line.now in
    let s = line.statements.now in
    let b = line.place in
    let t = line.recent.now.later.now.numbering in
    let same : (places : List (Option ℕ)) → entry_at places c.args.number ≡ entry_of t places x = λ places. ap (entry_at places) number in
    let source : c.entry_at-source.result ≡ setter s x b =
    c.entry_at-source.ensures ∙ (ap (λ (places : List (Option ℕ)). entry_at places c.args.number) c.deref.ensures.value
    ∙ (same line.recent.now.assigned.items ∙ c.requires.recent.assigned x)) in
    let read : c.entry_at.result ≡ reader s x b =
    c.entry_at.ensures ∙ (ap (λ (places : List (Option ℕ)). entry_at places c.args.number) c.deref-2.ensures.value
    ∙ (same line.recent.now.read.items ∙ c.requires.recent.read x)) in
    c.unless_after.ensures
    ∙ (ap (λ (o : Option ℕ). unless_after o c.entry_at.result line.recent.now.block) source
    ∙ (ap (λ (o : Option ℕ). unless_after (setter s x b) o line.recent.now.block) read
    ∙ (ap (λ (o : Option ℕ). unless_after (setter s x b) (reader s x b) o) c.requires.recent.block
    ∙ sym (nearest_by_last s x b))))
