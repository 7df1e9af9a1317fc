use Rattle.cord_script.proofs.Common.{◌∙◌, subst, arith, drop_all, IsFirstByte, is_byte, IsSplit}
use Rattle.cord_script.proofs.Lines.{split_first, split_last}
use Rattle.cord_script.proofs.parser.first_line.Goals as goal

pub returns-in-Some-clause-first : goal.returns-in-Some-clause-first
returns-in-Some-clause-first c = λ lines h.
    rw c.head.ensures (split_first c.args.bytes.now c.in-Some.end lines
    (subst (λ r. IsFirstByte (is_byte 10) c.args.bytes.now r) c.in-Some.is c.first_end.ensures)
    (subst (λ x. IsSplit x lines) c.tail.ensures h))

pub returns-in-None-clause-first : goal.returns-in-None-clause-first
returns-in-None-clause-first c = λ lines h.
    split_last c.args.bytes.now lines c.requires (subst (λ r. IsFirstByte (is_byte 10) c.args.bytes.now r) c.in-None.is c.first_end.ensures)
    (subst (λ x. IsSplit x lines) (c.tail-in-None.ensures ∙ drop_all _ c.args.bytes.now (omega arith)) h)
