use Rattle.cord_plan.proofs.Common.{flat_map, refl, path_byte}
use Rattle.cord_plan.proofs.Writing.{AreJoined, writes_failed, writes_broken}
use Rattle.cord_plan.proofs.plan_text.fragments.put_path_bytes.Goals as goal

joined : AreJoined (flat_map path_byte) path_byte
joined = record { nil = refl; cons = λ b bs. refl }

pub returns-in_err-put_path_byte : goal.returns-in_err-put_path_byte
returns-in_err-put_path_byte g c = writes_failed c.from_residual.ensures.0
    (writes_broken (flat_map path_byte) path_byte joined c.args.bytes.now c.loop-byte.byte-index 0 c.loop-byte-test.true
    c.loop-byte.invariant c.in_err-put_path_byte.ensures)
