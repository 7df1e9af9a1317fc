use Rattle.std.proofs.Common.{◌≡◌, ◌+◌, ◌/◌, ap, refl, arith, Err}
use Rattle.cord_io.specs.declared.CordError.{CordError}
use Rattle.cord_io.specs.declared.CordError.TheVariants.{TooLong}
use Rattle.cord_core.specs.Cord.{text_len}
use Rattle.cord.proofs.Results.{handed_on}
use Rattle.cord.proofs.Meanings.{means_repeated}
use Rattle.cord.proofs.Repeating.{twice, once_more, even_len, odd_len, most_len}
use Rattle.cord.proofs.doubling.+repeated.Goals as goal

pub returns-in_err-twice-clause-too_long : goal.returns-in_err-twice-clause-too_long
returns-in_err-twice-clause-too_long t c = handed_on _ TooLong c.in_err-twice.field-0.0 c.from_residual-in_err-twice.result
    c.from_residual-in_err-twice.ensures.1 (λ h. omega (
      arith,
      c.in_err-twice.ensures.too_long (ap (λ (y : CordError). Err y) h),
      c.in_ok-half.ensures.len,
      most_len c.args.times (text_len c.args.cord.now),
    ))

pub returns-then-times-eq0-2-clause-over : goal.returns-then-times-eq0-2-clause-over
returns-then-times-eq0-2-clause-over t c =
    let half = c.args.times / 2 in
    let e : c.args.times ≡ half + half = omega (arith, c.if-times-eq0-2.true) in
    twice c.args.times half c.args.cord.now c.in_ok-half.half c.in_ok-twice.twice e c.in_ok-half.ensures.over c.in_ok-twice.ensures.over

pub returns-then-times-eq0-2-clause-means : goal.returns-then-times-eq0-2-clause-means
returns-then-times-eq0-2-clause-means t c = λ ls bytes copies m e.
    means_repeated ls bytes copies c.args.times c.args.cord.now c.in_ok-twice.twice m e (returns-then-times-eq0-2-clause-over t c)

pub returns-then-times-eq0-2-clause-len : goal.returns-then-times-eq0-2-clause-len
returns-then-times-eq0-2-clause-len t c =
    let even = even_len c.args.times (text_len c.args.cord.now) c.if-times-eq0-2.true in
    omega (arith, even, c.in_ok-twice.ensures.len, c.in_ok-half.ensures.len)

pub returns-then-times-eq0-2-clause-within_limit : goal.returns-then-times-eq0-2-clause-within_limit
returns-then-times-eq0-2-clause-within_limit t c =
    let even = even_len c.args.times (text_len c.args.cord.now) c.if-times-eq0-2.true in
    omega (arith, even, c.in_ok-twice.ensures.within_limit, c.in_ok-half.ensures.len)

pub returns-in_err-odd-clause-too_long : goal.returns-in_err-odd-clause-too_long
returns-in_err-odd-clause-too_long t c = handed_on _ TooLong c.in_err-odd.field-0.0 c.from_residual-in_err-odd.result
    c.from_residual-in_err-odd.ensures.1 (λ h.
    let odd = odd_len c.args.times (text_len c.args.cord.now) c.if-times-eq0-2.false in
    let more = c.in_err-odd.ensures.too_long (ap (λ (y : CordError). Err y) h) in
    omega (arith, odd, more, c.in_ok-twice.ensures.len, c.in_ok-half.ensures.len))

pub returns-clause-over : goal.returns-clause-over
returns-clause-over t c =
    let half = c.args.times / 2 in
    let e : c.args.times ≡ half + half + 1 = omega (arith, c.if-times-eq0-2.false) in
    let even = twice (half + half) half c.args.cord.now c.in_ok-half.half c.in_ok-twice.twice refl c.in_ok-half.ensures.over
    c.in_ok-twice.ensures.over in
    once_more c.args.times (half + half) c.args.cord.now c.in_ok-twice.twice c.in_ok-odd.odd e even c.in_ok-odd.ensures.over

pub returns-clause-means : goal.returns-clause-means
returns-clause-means t c = λ ls bytes copies m e. means_repeated ls bytes copies c.args.times c.args.cord.now c.in_ok-odd.odd m e
    (returns-clause-over t c)

pub returns-clause-len : goal.returns-clause-len
returns-clause-len t c =
    let odd = odd_len c.args.times (text_len c.args.cord.now) c.if-times-eq0-2.false in
    omega (arith, odd, c.in_ok-odd.ensures.len, c.in_ok-twice.ensures.len, c.in_ok-half.ensures.len)

pub returns-clause-within_limit : goal.returns-clause-within_limit
returns-clause-within_limit t c =
    let odd = odd_len c.args.times (text_len c.args.cord.now) c.if-times-eq0-2.false in
    omega (arith, odd, c.in_ok-odd.ensures.within_limit, c.in_ok-twice.ensures.len, c.in_ok-half.ensures.len)
