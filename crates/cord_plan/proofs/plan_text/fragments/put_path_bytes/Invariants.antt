use Rattle.cord_plan.proofs.Common.{take, flat_map, Ok, WriteFault, Writes, path_byte}
use Rattle.cord_plan.proofs.plan_text.fragments.put_path_bytes.Given as goal

abbrev pub invariant-loop-byte : goal.invariant-loop-byte
invariant-loop-byte g l =
    Writes {E = WriteFault} g.W.Sink (flat_map (λ b. path_byte b) (take l.byte-index l.bytes)) l.initial.sink l.sink (Ok tt)
