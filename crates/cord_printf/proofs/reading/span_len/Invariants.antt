use Rattle.std.proofs.Common.{take}
use Rattle.std.specs.Prelude.{All}
use Rattle.cord_printf.specs.inner.Reading.{IsOf}
use Rattle.cord_printf.proofs.reading.span_len.Given as goal

abbrev pub invariant-loop-i : goal.invariant-loop-i
invariant-loop-i l = All (IsOf l.class) (take l.i l.bytes)
