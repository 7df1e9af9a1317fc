use Rattle.cord_run.proofs.Common.{Ok, sym, ◌∙◌, rules, MAX_LEN, as_byte, measured_copies, operand_in, ◌≡◌}
use Rattle.cord_run.proofs.Numbers.{handed}
use Rattle.cord_run.proofs.Parts.{run_built}
use Rattle.cord_run.proofs.expressions.parts.build_run.Goals as goal

pub returns : goal.returns
returns c =
    let entries = c.args.store.now.entries.items in
    let copies = c.in_ok-copies.copies in
    let byte = handed c.value_of.result (search rules) c.value_of.ensures in
    let count = handed c.value_of-2.result (search rules) c.value_of-2.ensures in
    let asked : as_byte (operand_in entries c.args.byte.now) ≡ Ok copies.byte = sym (λ i. as_byte (byte i)) ∙ c.in_ok-copies.ensures.byte in
    let reported : measured_copies MAX_LEN (operand_in entries c.args.byte.now) (operand_in entries c.args.count.now) ≡ Ok copies.count =
    sym (λ i. measured_copies MAX_LEN (byte i) (count i)) ∙ c.in_ok-copies.ensures.count in
    record {
      built = run_built entries c.args.byte.now c.args.count.now copies.byte copies.count c.in_ok-copies_of.field-0 asked reported
          c.in_ok-copies_of.ensures.made.whole c.in_ok-copies_of.ensures.made.sound;
      refused = tt;
    }
