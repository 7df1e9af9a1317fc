use Rattle.std.proofs.Common.{◌≡◌, arith, rules, length}
use Rattle.std.proofs.lemmas.Grind.{common_steps}
use Rattle.std.proofs.lemmas.Result.{IfOk-weaker}
use Rattle.cord_node.specs.Tree.{len_of, IsSound}
use Rattle.cord_node.specs.PartsFrom.{parts}
use Rattle.cord_node.proofs.PartsFromLemmas.{PartsFrom_same, PartsFrom-left, PartsFrom-right, PartsFrom-join}
use Rattle.cord_node.proofs.Ranges.{range_whole, range_left, range_right, range_both}
use Rattle.cord_node.proofs.TouchedLemmas.{touched_left, touched_right, touched_both, touched_by_all}
use Rattle.cord_node.proofs.TreeLemmas.{range_of_leaf, range_of_run, range_of_func, length-cells}
use Rattle.cord_node.proofs.range.+sub_node.Goals as goal

pub returns-then-from-count-clause-parts_from : goal.returns-then-from-count-clause-parts_from
returns-then-from-count-clause-parts_from t c = rw (← c.as_ref.ensures, c.in-Cat.is)
    (IfOk-weaker _ _ _ (λ part k. PartsFrom-left _ _ _ k) c.sub_node.ensures.parts_from)

pub returns-then-middle-from-clause-parts_from : goal.returns-then-middle-from-clause-parts_from
returns-then-middle-from-clause-parts_from t c = rw (← c.as_ref.ensures, c.in-Cat.is)
    (IfOk-weaker _ _ _ (λ part k. PartsFrom-right _ _ _ k) c.sub_node-then-middle-from.ensures.parts_from)

pub returns-in_ok-right-in-Cat-clause-parts_from : goal.returns-in_ok-right-in-Cat-clause-parts_from
returns-in_ok-right-in-Cat-clause-parts_from t c = rw (← c.as_ref.ensures, c.in-Cat.is)
    (IfOk-weaker _ _ _ (λ part k. PartsFrom-join _ _ _ _ _ c.in_ok-left-in-Cat.ensures.parts_from c.in_ok-right-in-Cat.ensures.parts_from k)
    c.join.ensures.parts_from)

pub returns-then-count-len-clause-text : goal.returns-then-count-len-clause-text
returns-then-count-len-clause-text t c = grind (arith, common_steps, range_whole, length-cells)

pub returns-in-Leaf-clause-text : goal.returns-in-Leaf-clause-text
returns-in-Leaf-clause-text t c = grind (arith, common_steps, range_of_leaf)

pub returns-in-Run-clause-text : goal.returns-in-Run-clause-text
returns-in-Run-clause-text t c = grind (arith, common_steps, range_of_run)

pub returns-in-Func-clause-text : goal.returns-in-Func-clause-text
returns-in-Func-clause-text t c = grind (arith, common_steps, range_of_func)

pub returns-then-from-count-clause-text : goal.returns-then-from-count-clause-text
returns-then-from-count-clause-text t c = grind (arith, common_steps, range_left, length-cells)

pub returns-then-middle-from-clause-text : goal.returns-then-middle-from-clause-text
returns-then-middle-from-clause-text t c = grind (arith, common_steps, range_right, length-cells)

pub returns-in_ok-right-in-Cat-clause-text : goal.returns-in_ok-right-in-Cat-clause-text
returns-in_ok-right-in-Cat-clause-text t c = grind (arith, common_steps, range_both, length-cells)

pub returns-then-count-len-clause-parts_from : goal.returns-then-count-len-clause-parts_from
returns-then-count-len-clause-parts_from t c = grind (arith, common_steps, PartsFrom_same)

pub returns-then-count-len-clause-few : goal.returns-then-count-len-clause-few
returns-then-count-len-clause-few t c = grind (arith, common_steps, touched_by_all)

pub returns-then-from-count-clause-few : goal.returns-then-from-count-clause-few
returns-then-from-count-clause-few t c =
    let s : IsSound c.in-Cat.left.value = grind (arith, common_steps) in
    rw (← c.as_ref.ensures, c.in-Cat.is)
    (IfOk-weaker c.sub_node.result _ _ (λ part k. touched_left c.args.from c.args.count (length (parts part.value))
    c.in-Cat.left.value c.in-Cat.right.value s k) c.sub_node.ensures.few)

pub returns-then-middle-from-clause-few : goal.returns-then-middle-from-clause-few
returns-then-middle-from-clause-few t c =
    let s : IsSound c.in-Cat.left.value = grind (arith, common_steps) in
    let seam : c.len-middle.result ≡ len_of c.in-Cat.left.value = grind (arith, common_steps) in
    rw (← c.as_ref.ensures, c.in-Cat.is)
    (IfOk-weaker c.sub_node-then-middle-from.result _ _ (λ part k. touched_right c.args.from c.args.count c.len-middle.result
    (length (parts part.value)) c.in-Cat.left.value c.in-Cat.right.value s seam c.if-middle-from.true k)
    c.sub_node-then-middle-from.ensures.few)

pub returns-in_ok-right-in-Cat-clause-few : goal.returns-in_ok-right-in-Cat-clause-few
returns-in_ok-right-in-Cat-clause-few t c =
    let s : IsSound c.in-Cat.left.value = grind (arith, common_steps) in
    let seam : c.len-middle.result ≡ len_of c.in-Cat.left.value = grind (arith, common_steps) in
    rw (← c.as_ref.ensures, c.in-Cat.is)
    (IfOk-weaker c.join.result _ _ (λ part k. touched_both c.args.from c.args.count c.len-middle.result (length (parts part.value))
    c.in-Cat.left.value c.in-Cat.right.value (parts c.in_ok-left-in-Cat.left.value) (parts c.in_ok-right-in-Cat.right.value) s seam
    c.if-middle-from.false c.if-from-count.false c.in_ok-left-in-Cat.ensures.few c.in_ok-right-in-Cat.ensures.few
    k.no_more) c.join.ensures.parts_from)

pub returns-in-Run-clause-few : goal.returns-in-Run-clause-few
returns-in-Run-clause-few t c = search rules

pub returns-in-Run-clause-depth : goal.returns-in-Run-clause-depth
returns-in-Run-clause-depth t c = search rules

pub returns-in-Run-clause-parts_from : goal.returns-in-Run-clause-parts_from
returns-in-Run-clause-parts_from t c = search rules
