use Rattle.std.specs.Prelude.{◌∷◌, ◌++◌}
use Rattle.cord_plan.proofs.Common.{[], flat_map, ◌∙◌, ap, path_byte}
use Rattle.cord_plan.proofs.Writing.{writes_same, writes_then, writes_stopped, writes_failed}
use Rattle.cord_plan.proofs.plan_text.fragments.put_path.Goals as goal

pub returns-in_err-put_all : goal.returns-in_err-put_all
returns-in_err-put_all g c = writes_failed c.from_residual.ensures.0
    (writes_stopped (flat_map path_byte c.args.path.now ++ 34 ∷ []) c.in_err-put_all.ensures)

pub returns-in_err-put_path_bytes : goal.returns-in_err-put_path_bytes
returns-in_err-put_path_bytes g c =
    let same = ap (flat_map path_byte) (c.as_bytes.ensures.value ∙ c.as_str.ensures) in
    writes_failed c.from_residual-in_err-put_path_bytes.ensures.0
    (writes_then c.in_ok-put_all.ensures (writes_stopped (34 ∷ []) (writes_same same c.in_err-put_path_bytes.ensures)))

pub returns : goal.returns
returns g c =
    let same = ap (flat_map path_byte) (c.as_bytes.ensures.value ∙ c.as_str.ensures) in
    writes_then c.in_ok-put_all.ensures (writes_then (writes_same same c.in_ok-put_path_bytes.ensures) c.put_all-2.ensures)
