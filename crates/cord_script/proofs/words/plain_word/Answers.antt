use Rattle.cord_script.proofs.Worded.{plain_next}
use Rattle.cord_script.proofs.words.plain_word.Goals as goal

pub returns : goal.returns
returns c = (plain_next c.args.line.now c.tail-rest.result.now c.in-Some.field-0-1.now c.head.result.now c.tail.result.now c.in-Some.first
    c.blanks.result c.plain_len-len.result c.head.ensures c.tail.ensures c.tail-rest.ensures c.in-Some.ensures c.blanks.ensures.blank
    c.blanks.ensures.stops c.if-first-eq34.false c.plain_len-len.ensures.plain c.plain_len-len.ensures.ends).0
