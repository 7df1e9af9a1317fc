use Rattle.std.proofs.lemmas.Result.{on_ok_weaker}
use Rattle.cord_node.specs.PartsFrom.{parts}
use Rattle.cord_balance.specs.inner.Forest.{forest_parts}
use Rattle.cord_balance.proofs.Inserting.{two_from}
use Rattle.cord_balance.proofs.forest.trees.+insert_tree.Goals as goal

pub returns-clause-parts_from : goal.returns-clause-parts_from
returns-clause-parts_from t c = rw (← c.as_ref.ensures, c.in-Cat.is) (on_ok_weaker c.insert_tree-in-Cat.result
    (λ k. two_from (forest_parts c.args.forest.now.items) (parts c.in-Cat.left.value) (parts c.in-Cat.right.value)
    (forest_parts c.insert_tree.new.forest.items) (forest_parts c.insert_tree-in-Cat.new.forest.items)
    c.in_ok-insert_tree-in-Cat.ensures.parts_from k) c.insert_tree-in-Cat.ensures.parts_from)
