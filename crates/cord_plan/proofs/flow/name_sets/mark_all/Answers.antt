use Rattle.std.specs.Prelude.{◌≡◌, ◌≤◌, ◌||◌, ◌+◌}
use Rattle.cord_plan.proofs.Common.{Some, length, get_or, take, arith, slice_get, bit_or, bytes_eq, take_all, slice_get-get_or, has}
use Rattle.cord_plan.proofs.MarkedNames.{has_more, marks_or, marks_same}
use Rattle.cord_plan.proofs.Numbers.{as_many, name_at}
use Rattle.cord_plan.proofs.Words.{bit_zero_is}
use Rattle.cord_plan.proofs.flow.name_sets.mark_all.Goals as goal

pub loop-number-init : goal.loop-number-init
loop-number-init c = λ t xs are x i b. bit_zero_is i

pub loop-number-preserved : goal.loop-number-preserved
loop-number-preserved c = λ t xs are.
    let g = c.args.group in
    let ns = c.args.numbers.now in
    let i = c.loop-number.number-index in
    let n = get_or ns i 0 in
    let there : slice_get ns i ≡ Some n = slice_get-get_or ns i 0 c.loop-number-test.true in
    let found = name_at t xs ns are i n there in
    let y = found.name in
    marks_same t g (λ x. has (take i xs) x || bytes_eq x y) (λ x. has (take (i + 1) xs) x)
    (bit_or c.loop-number.word c.mark_number-word.result) (λ x. has_more xs i y x found.within found.is)
    (marks_or t g (λ x. has (take i xs) x) (λ x. bytes_eq x y) c.loop-number.word c.mark_number-word.result
    (c.loop-number.invariant t xs are) (c.mark_number-word.ensures t y found.number))

pub returns : goal.returns
returns c = λ t xs are.
    let many : length c.args.numbers.now ≡ length xs = as_many t xs c.args.numbers.now are in
    let over : length xs ≤ c.loop-number.number-index = omega (arith, many, c.loop-number-test.false) in
    rw (take_all c.loop-number.number-index xs over) at (c.loop-number.invariant t xs are)
