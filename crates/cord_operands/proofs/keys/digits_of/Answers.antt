use Rattle.std.proofs.Common.{ℕ, ◌≤◌, ◌<◌, ◌^◌, arith}
use Rattle.std.proofs.Math.Nat.{pow-le-pow_right}
use Rattle.cord_operands.proofs.keys.digits_of.Goals as goal

-- a number of at most so many bytes
bounded : {digits i most : ℕ} → digits < 256 ^ i → i ≤ most → digits < 256 ^ most
bounded {digits} {i} {most} small few =
    let wider : 256 ^ i ≤ 256 ^ most = pow-le-pow_right (omega arith) few in
    omega (arith, small, wider)

pub overflow_mul-digits : goal.overflow_mul-digits
overflow_mul-digits c =
    let few : c.loop-byte.byte-index ≤ 6 = omega (arith, c.requires, c.loop-byte-test.true) in
    let small : c.loop-byte.digits < 256 ^ 6 = bounded c.loop-byte.invariant.1 few in
    omega (arith, small)

pub returns-clause-within : goal.returns-clause-within
returns-clause-within c =
    let few : c.loop-byte.byte-index ≤ 7 = omega (arith, c.requires, c.loop-byte.auto.byte-index-end) in
    bounded c.loop-byte.invariant.1 few
