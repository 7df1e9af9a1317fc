use Rattle.std.proofs.Common.{◌≡◌, ℕ, ◌<◌, ◌∙◌, List, sym, subst, arith}
use Rattle.std.specs.List.{All}
use Rattle.std.proofs.lemmas.Result.{on_ok_weaker}
use Rattle.std.proofs.lemmas.List.Elements.{All-push}
use Rattle.cord_node.specs.declared.Node.{Node}
use Rattle.cord_node.specs.Tree.{len_of, IsSound}
use Rattle.cord_node.specs.PartsFrom.{parts}
use Rattle.cord_balance.specs.declared.forest.balanced_trees.Known.{Known}
use Rattle.cord_balance.specs.inner.Forest.{IsForm, IsKnown, forest_parts}
use Rattle.cord_balance.proofs.Inserting.{two_from}
use Rattle.cord_balance.proofs.Forms.{IsPut, form_put, cat_put, form_of_put, right_some}
use Rattle.cord_balance.proofs.forest.trees.+insert_once.Goals.{In_ok-insert_tree-2}
use Rattle.cord_balance.proofs.forest.trees.+insert_once.Goals as goal

pub returns-then-strong_count-alone-clause-parts_from : goal.returns-then-strong_count-alone-clause-parts_from
returns-then-strong_count-alone-clause-parts_from t c = rw (← c.as_ref.ensures, c.in-Cat.is)
    (on_ok_weaker c.insert_once-then-strong_count-alone.result (λ k. two_from (forest_parts c.args.forest.now.items)
    (parts c.in-Cat.left.value) (parts c.in-Cat.right.value) (forest_parts c.insert_once.new.forest.items)
    (forest_parts c.insert_once-then-strong_count-alone.new.forest.items) c.in_ok-insert_once.ensures.parts_from k)
    c.insert_once-then-strong_count-alone.ensures.parts_from)

pub returns-in-Some-clause-parts_from : goal.returns-in-Some-clause-parts_from
returns-in-Some-clause-parts_from t c =
    let old = c.args.forest.now.items in
    let new = c.insert_tree-in-Some.new.forest.items in
    let n = c.args.node.now.value in
    let form = c.in-Some.form.now.value in
    let is : IsForm n form = subst (λ (m : Node). IsForm m form) c.as_ref-2.ensures c.in-Some.ensures in
    let put : IsPut old new form = record {
      text = c.in_ok-insert_tree.ensures.text;
      len = c.in_ok-insert_tree.ensures.len;
      parts_from = c.in_ok-insert_tree.ensures.parts_from;
    } in
    (form_put old new n form is put).parts_from

pub gather_all-requires-clause-some : goal.gather_all-requires-clause-some
gather_all-requires-clause-some t c =
    let some : 0 < len_of c.in-Cat.right.value =
    right_some c.args.node.now.value _ c.in-Cat.left.value _ c.in-Cat.right.value _ _ _ _ (sym c.as_ref.ensures ∙ c.in-Cat.is)
    c.requires.sound in
    omega (arith, some, c.in_ok-insert_once-3.ensures.len)

-- what was joined of the two sides is the node's form
form_is : (t : ℕ) (c : In_ok-insert_tree-2 t) → IsForm c.args.node.now.value c.in_ok-form.form.value
form_is t c =
    let n = c.args.node.now.value in
    let own = c.new-own.result.items in
    let mid = c.insert_once-2.new.forest.items in
    let all = c.insert_once-3.new.forest.items in
    let form = c.in_ok-form.form.value in
    let one : IsPut own mid c.in-Cat.left.value = record {
      text = c.in_ok-insert_once-2.ensures.text;
      len = c.in_ok-insert_once-2.ensures.len;
      parts_from = c.in_ok-insert_once-2.ensures.parts_from;
    } in
    let two : IsPut mid all c.in-Cat.right.value = record {
      text = c.in_ok-insert_once-3.ensures.text;
      len = c.in_ok-insert_once-3.ensures.len;
      parts_from = c.in_ok-insert_once-3.ensures.parts_from;
    } in
    let both : IsPut own all n =
    cat_put own mid all n _ c.in-Cat.left.value _ c.in-Cat.right.value _ _ _ _ (sym c.as_ref.ensures ∙ c.in-Cat.is)
    c.requires.sound one two in
    form_of_put own all n form c.new-own.ensures.items both c.in_ok-form.ensures.sound c.in_ok-form.ensures.text
    c.in_ok-form.ensures.len c.in_ok-form.ensures.parts_from

pub returns-clause-known : goal.returns-clause-known
returns-clause-known t c =
    let n = c.args.node.now.value in
    let form = c.in_ok-form.form.value in
    let is : IsForm n form = form_is t (goal.at.returns-clause-known t c).In_ok-insert_tree-2 in
    let same : c.in_ok-node.node.value ≡ n = c.in_ok-node.ensures.cases in
    let pair : IsSound c.in_ok-node.node.value × IsForm c.in_ok-node.node.value form =
    subst (λ (m : Node). IsSound m × IsForm m form) (sym same) (c.requires.sound, is) in
    subst (λ (ks : List Known). All IsKnown ks) (sym c.in_ok-push.ensures.items)
    (All-push IsKnown c.insert_once-3.new.known.items _ c.in_ok-insert_once-3.ensures.known pair)

pub returns-clause-parts_from : goal.returns-clause-parts_from
returns-clause-parts_from t c =
    let n = c.args.node.now.value in
    let form = c.in_ok-form.form.value in
    let old = c.args.forest.now.items in
    let new = c.insert_tree-2.new.forest.items in
    let put : IsPut old new form = record {
      text = c.in_ok-insert_tree-2.ensures.text;
      len = c.in_ok-insert_tree-2.ensures.len;
      parts_from = c.in_ok-insert_tree-2.ensures.parts_from;
    } in
    (form_put old new n form (form_is t (goal.at.returns-clause-parts_from t c).In_ok-insert_tree-2) put).parts_from
