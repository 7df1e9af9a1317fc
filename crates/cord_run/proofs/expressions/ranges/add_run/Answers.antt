use Rattle.cord_run.proofs.Common.{ℕ, Ok, Result, arith, sym, subst, ◌∙◌, rules, FaultKind, IsAfter, MAX_LEN, as_byte, measured_copies}
use Rattle.cord_run.proofs.Common.{operand_in, ◌≡◌}
use Rattle.cord_run.proofs.Numbers.{handed}
use Rattle.cord_run.proofs.Ranges.{run_picked}
use Rattle.cord_run.proofs.expressions.ranges.add_run.Goals as goal

pub returns : goal.returns
returns c =
    let entries = c.args.store.now.entries.items in
    let old = c.args.pieces.now.items in
    let new = c.add_copies.new.pieces.items in
    let byte = handed c.value_of.result (search rules) c.value_of.ensures in
    let count = handed c.value_of-2.result (search rules) c.value_of-2.ensures in
    let reported : measured_copies MAX_LEN (operand_in entries c.args.byte.now) (operand_in entries c.args.count.now)
    ≡ Ok c.in-Ok.copies.count =
    sym (λ i. measured_copies MAX_LEN (byte i) (count i)) ∙ c.in-Ok.ensures.count in
    let asked : as_byte (operand_in entries c.args.byte.now) ≡ Ok c.in-Ok.copies.byte =
    sym (λ i. as_byte (byte i)) ∙ c.in-Ok.ensures.byte in
    let copies = c.in_ok-add_copies.ensures (operand_in entries c.args.byte.now) asked in
    record {
      added = run_picked (operand_in entries c.args.byte.now) (operand_in entries c.args.count.now) c.args.wanted old c.in-Ok.copies.count
          c.of-taken.result new reported c.of-taken.ensures copies;
      past = subst (λ (r : Result ℕ FaultKind). IsAfter r c.args.wanted c.after-after.result) (sym reported) c.after-after.ensures;
      few = omega (arith, copies.len, c.of-taken.ensures, c.after-after.ensures.count);
    }
