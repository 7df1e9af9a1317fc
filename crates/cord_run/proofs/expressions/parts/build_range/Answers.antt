use Rattle.cord_run.proofs.Common.{Ok, sym, ◌∙◌, rules, as_index, operand_in, ◌≡◌}
use Rattle.cord_run.proofs.Numbers.{handed}
use Rattle.cord_run.proofs.Parts.{range_built}
use Rattle.cord_run.proofs.expressions.parts.build_range.Goals as goal

pub returns : goal.returns
returns c =
    let entries = c.args.store.now.entries.items in
    let start = handed c.value_of.result (search rules) c.value_of.ensures in
    let count = handed c.value_of-2.result (search rules) c.value_of-2.ensures in
    let first : as_index (operand_in entries c.args.start.now) ≡ Ok c.in_ok-start.start =
    sym (λ i. as_index (start i)) ∙ sym c.in_ok-start.ensures in
    let second : as_index (operand_in entries c.args.count.now) ≡ Ok c.in_ok-count.count =
    sym (λ i. as_index (count i)) ∙ sym c.in_ok-count.ensures in
    record {
      built = range_built entries c.args.name.now c.args.start.now c.args.count.now c.in_ok-start.start c.in_ok-count.count c.in_ok-cord.cord
          c.in_ok-substr.field-0 first second c.in_ok-cord.ensures.same c.in_ok-substr.ensures.over c.in_ok-substr.ensures.parts_from
          c.in_ok-substr.ensures.sound;
      refused = tt;
    }
