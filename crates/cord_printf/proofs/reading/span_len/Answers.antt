use Rattle.std.proofs.Common.{arith, refl}
use Rattle.std.proofs.lemmas.List.Elements.{All-more}
use Rattle.cord_printf.specs.inner.Reading.{IsOf}
use Rattle.cord_printf.proofs.reading.span_len.Goals as goal

pub loop-i-preserved : goal.loop-i-preserved
loop-i-preserved c = All-more (IsOf c.args.class) c.args.bytes.now c.loop-i.i 0 (omega arith) c.loop-i.invariant
    (c.if-not-is_of.ensures.yes refl)
