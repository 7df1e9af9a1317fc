use Rattle.cord_script.proofs.Common.{is_byte, subst}
use Rattle.memchr.specs.Find.{TakesFirst}
use Rattle.cord_script.proofs.Lines.{first_place}
use Rattle.cord_script.proofs.parser.first_end.Goals as goal

pub returns : goal.returns
returns c = first_place (is_byte 10) c.args.bytes.now c.next.result c.next.new.self
    (subst (λ s. TakesFirst s c.next.result c.next.new.self) c.memchr_iter.ensures.value c.next.ensures.steps)
