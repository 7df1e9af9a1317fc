use Rattle.cord_script.proofs.Common.{err_from_is_err_and}
use Rattle.cord_script.proofs.Worded.{begins_bad, quoted_next, plain_next}
use Rattle.cord_script.proofs.words.next_word.Goals as goal

pub returns-in_err-text-clause-first_error : goal.returns-in_err-text-clause-first_error
returns-in_err-text-clause-first_error c =
    let p = err_from_is_err_and c.from_residual.result c.from_residual.ensures.1 in
    rw (p.1, p.2) (λ n. begins_bad c.args.line.now c.tail-rest.result.now c.in-Some.inner.now c.blanks.result c.in-Some.first _
    c.tail-rest.ensures c.in-Some.ensures c.if-first-eq34.true c.blanks.ensures.blank (c.in_err-text.ensures.first_error n))

pub returns-then-first-eq34-clause-word : goal.returns-then-first-eq34-clause-word
returns-then-first-eq34-clause-word c =
    let read = c.in_ok-text.ensures.text in
    quoted_next c.args.line.now c.tail-rest.result.now c.in-Some.inner.now read.0 c.in_ok-text.after.now c.in_ok-text.text c.blanks.result
    c.in-Some.first c.tail-rest.ensures c.in-Some.ensures c.if-first-eq34.true read.1 c.blanks.ensures.blank read.2 read.3

pub returns-clause-word : goal.returns-clause-word
returns-clause-word c =
    plain_next c.args.line.now c.tail-rest.result.now c.in-Some.inner.now c.head-bytes.result.now c.tail.result.now c.in-Some.first c.blanks.result
    c.plain_len-len.result c.head-bytes.ensures c.tail.ensures c.tail-rest.ensures c.in-Some.ensures c.blanks.ensures.blank
    c.blanks.ensures.stops c.if-first-eq34.false c.plain_len-len.ensures.plain c.plain_len-len.ensures.ends
