use Rattle.cord_lines.proofs.Common.{ap, arith, ends_in, length, ℕ, ◌+◌, ◌-◌, ◌≡◌}
use Rattle.cord_lines.proofs.Countings.{after-le}
use Rattle.cord_lines.proofs.Readings.{found_piece, missing_piece}
use Rattle.cord_lines.proofs.reading.end_in_bytes.Goals as goal

pub loop-rest-init : goal.loop-rest-init
loop-rest-init c = record { way = λ y. omega arith; inside = omega arith }

pub overflow_add-result : goal.overflow_add-result
overflow_add-result c =
    let le = after-le c.loop-rest.left c.split_at.result.0.now in
    omega (arith, c.end_in_piece.ensures, c.split_at.ensures.front_len, c.min.ensures, c.loop-rest.invariant.inside)

pub returns-then-left-ends : goal.returns-then-left-ends
returns-then-left-ends c =
    let before : ℕ = length c.args.bytes.now - length c.loop-rest.rest.now in
    found_piece c.min.result c.loop-rest.invariant c.split_at.ensures.front c.split_at.ensures.back (before + c.end_in_piece.result)
    (omega (arith, c.if-left-ends.true, c.from-ends.ensures, c.count_few.ensures.ends)) (ap (λ (k : ℕ). before + k) c.end_in_piece.ensures)

pub loop-rest-preserved : goal.loop-rest-preserved
loop-rest-preserved c =
    let ends : c.from-ends.result ≡ ends_in c.split_at.result.0.now = omega (arith, c.from-ends.ensures, c.count_few.ensures.ends) in
    missing_piece c.min.result c.loop-rest.invariant c.split_at.ensures.front c.split_at.ensures.back
    (c.loop-rest.left - c.from-ends.result) (omega (arith, c.if-left-ends.false, ends)) (omega (arith, ends))
