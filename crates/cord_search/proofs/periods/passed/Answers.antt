use Rattle.cord_search.proofs.Common.{arith}
use Rattle.cord_search.proofs.Lemmas.{answered, not_read, passed_long, passed_short, shown, shown_on}
use Rattle.cord_search.proofs.periods.passed.Goals as goal

pub returns-in_default : goal.returns-in_default
returns-in_default g c = answered (omega arith, omega arith) (shown not_read (λ t held q low to at. omega (arith, low, to)))

pub returns-then-run-count : goal.returns-then-run-count
returns-then-run-count g c = answered (omega arith, omega (arith, c.in_ok-run.ensures.always, c.len-len.ensures.stored))
    (shown_on c.requires.repeats c.in_ok-run.ensures (λ t held repeats run. passed_short held c.requires.text
    c.requires.pattern (rw c.in-Some.is at c.requires.period) (rw c.in-Some.is at repeats) (rw c.len-len.ensures.stored at run)
    c.if-run-count.true))

pub returns-then-count-most : goal.returns-then-count-most
returns-then-count-most g c = answered
    (omega (arith, c.if-run-count.false), omega (arith, c.in_ok-run.ensures.always, c.len-len.ensures.stored))
    (shown_on c.requires.repeats c.in_ok-run.ensures (λ t held repeats run. passed_long held c.requires.text
    c.requires.pattern (rw c.in-Some.is at c.requires.period) (rw c.in-Some.is at repeats) (rw c.len-len.ensures.stored at run)
    (omega (arith, c.if-run-count.false)) (omega (arith, c.if-count-most.true, c.len-pattern_len.ensures.stored))))

pub returns : goal.returns
returns g c = answered (omega arith, omega arith) (shown c.in_ok-run.ensures.read (λ t held q low to at. omega (arith, low, to)))
