use Rattle.cord_lines.proofs.Common.{[], ap, arith, drop, length, length-drop, ◌≡◌}
use Rattle.cord_lines.proofs.reading.end_from.Goals as goal

pub unreachable-requires : goal.unreachable-requires
unreachable-requires c =
    let none : drop c.loop-place.place c.args.text.now ≡ [] = c.in_default.ensures in
    omega (arith, ap (λ y. length y) none, length-drop c.loop-place.place c.args.text.now, c.loop-place-test.true, c.len.ensures.value)
