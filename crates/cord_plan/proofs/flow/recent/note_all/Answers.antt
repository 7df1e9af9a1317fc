use Rattle.std.specs.Prelude.{◌≡◌, ◌≤◌}
use Rattle.cord_plan.proofs.Common.{Some, length, get_or, ap, ◌∙◌, arith, slice_get, take_all, slice_get-get_or}
use Rattle.cord_plan.proofs.Numbers.{as_many, name_at, number_there}
use Rattle.cord_plan.proofs.Recents.{puts_more, puts_nothing}
use Rattle.cord_plan.proofs.flow.recent.note_all.Goals as goal

pub loop-number-init : goal.loop-number-init
loop-number-init c = λ t xs are size. puts_nothing t (Some c.args.place) c.args.places.now

pub loop-number-preserved : goal.loop-number-preserved
loop-number-preserved c = λ t xs are size.
    let ns = c.args.numbers.now in
    let i = c.loop-number.number-index in
    let n = get_or ns i 0 in
    let there : slice_get ns i ≡ Some n = slice_get-get_or ns i 0 c.loop-number-test.true in
    let found = name_at t xs ns are i n there in
    puts_more t (Some c.args.place) xs i found.name c.args.places.now c.loop-number.places c.put.new.places found.within found.is
    (c.loop-number.invariant t xs are size) (c.put.ensures t (Some found.name) (ap Some (number_there t found.name n found.number))
    (c.loop-number.auto.places ∙ size))

pub returns : goal.returns
returns c = λ t xs are size.
    let many : length c.args.numbers.now ≡ length xs = as_many t xs c.args.numbers.now are in
    let over : length xs ≤ c.loop-number.number-index = omega (arith, many, c.loop-number-test.false) in
    rw (take_all c.loop-number.number-index xs over) at (c.loop-number.invariant t xs are size)
