use Rattle.std.specs.Prelude.{◌≡◌}
use Rattle.cord_plan.proofs.Common.{None, refl, ◌∙◌, rules, replicate, length-replicate}
use Rattle.cord_plan.proofs.Recents.{none_noted}
use Rattle.cord_plan.proofs.flow.recent.Recent.of.Goals as goal

pub returns-clause-recent : goal.returns-clause-recent
returns-clause-recent c =
    let t = c.args.later.now.numbering in
    let n = c.count-count.result in
    let assigned : c.in_ok-assigned.assigned.items ≡ replicate n None =
    c.in_ok-assigned.ensures.items_if_clones_equal (λ x h. search rules) in
    let read : c.in_ok-read.read.items ≡ replicate n None = c.in_ok-read.ensures.items_if_clones_equal (λ x h. search rules) in
    λ s numbered. record {
      numbered = numbered;
      assigned_for = rw assigned (length-replicate n None ∙ c.count-count.ensures);
      read_for = rw read (length-replicate n None ∙ c.count-count.ensures);
      assigned = λ x. rw assigned (none_noted t n x);
      read = λ x. rw read (none_noted t n x);
      block = refl;
    }
