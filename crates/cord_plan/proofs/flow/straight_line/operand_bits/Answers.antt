use Rattle.std.specs.Prelude.{◌≡◌, ◌<◌}
use Rattle.cord_plan.proofs.Common.{ℕ, Option, Some, length, get_or, sym, ap, ◌∙◌, arith, is_some, slice_get, slice_get-get_or}
use Rattle.cord_plan.proofs.Common.{slice_get_within, entry_at, entry_of}
use Rattle.cord_plan.proofs.StraightLine.{bits_more, bits_start}
use Rattle.cord_plan.proofs.Numbers.{as_many, name_at}
use Rattle.cord_plan.proofs.flow.straight_line.operand_bits.Goals as goal

pub loop-index-init : goal.loop-index-init
loop-index-init c = λ t xs are. bits_start (λ x. is_some (entry_of t c.args.next_reads.now x)) xs

pub loop-index-preserved : goal.loop-index-preserved
loop-index-preserved c = λ t xs are.
    let ns = c.args.numbers.now in
    let places = c.args.next_reads.now in
    let k = c.loop-index.index in
    let n = get_or ns k 0 in
    let there : slice_get ns k ≡ Some n = slice_get-get_or ns k 0 c.loop-index-test.true in
    let found = name_at t xs ns are k n there in
    bits_more (λ x. is_some (entry_of t places x)) xs k c.loop-index.bits c.operand_bit-bits.result found.name c.is_read.result found.there
    (c.is_read.ensures ∙ ap (λ (o : Option ℕ). is_some (entry_at places o)) (sym found.number)) c.operand_bit-bits.ensures
    (c.loop-index.invariant t xs are)

pub returns-then-index-ge-OPERANDS : goal.returns-then-index-ge-OPERANDS
returns-then-index-ge-OPERANDS c = λ t xs are i x within there. (c.loop-index.invariant t xs are).before i x (omega arith) within there

pub returns : goal.returns
returns c = λ t xs are i x within there.
    let many : length c.args.numbers.now ≡ length xs = as_many t xs c.args.numbers.now are in
    let lt : i < length xs = slice_get_within xs i x there in
    (c.loop-index.invariant t xs are).before i x (omega (arith, lt, many, c.loop-index-test.false)) within there
