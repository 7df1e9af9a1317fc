use Rattle.cord_lines.proofs.Common.{arith, drop}
use Rattle.cord_lines.proofs.Ends.{none_passed}
use Rattle.cord_lines.proofs.reading.end_in_piece.Goals as goal

pub returns-then-left-eq0 : goal.returns-then-left-eq0
returns-then-left-eq0 c =
    let none = none_passed (drop c.loop-place.place c.args.bytes.now) in
    let found = rw c.if-left-eq0.true at c.loop-place.invariant in
    omega (arith, found, none)
