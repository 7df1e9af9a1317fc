use Rattle.std.proofs.Common.{◌≡◌, ◌+◌, ◌∙◌, List, [], ◌++◌, sym, ap, subst, arith}
use Rattle.cord_node.specs.Tree.{cells, len_of}
use Rattle.cord_node.specs.PartsFrom.{parts, PartsFrom}
use Rattle.cord_balance.specs.declared.forest.Piece.{Piece}
use Rattle.cord_balance.specs.inner.Forest.{forest_cells, forest_parts, forest_len}
use Rattle.cord_balance.proofs.Forms.{all_taken, some_taken}
use Rattle.cord_balance.proofs.forest.slots.gather_all.Goals as goal

pub unreachable-requires : goal.unreachable-requires
unreachable-requires c = some_taken c.args.forest.now.items c.gather.new.forest.items c.in_ok-node.ensures.rest c.in_ok-node.ensures.from
    c.requires.within_limit c.requires.some (rw c.in-None.is at c.in_ok-node.ensures.len)

pub returns-clause-text : goal.returns-clause-text
returns-clause-text c =
    let n = c.in-Some.node.value in
    let rest = c.gather.new.forest.items in
    let len : forest_len c.args.forest.now.items ≡ forest_len rest + len_of n = rw c.in-Some.is at c.in_ok-node.ensures.len in
    let none : rest ≡ [] =
    all_taken c.args.forest.now.items rest (len_of n) c.in_ok-node.ensures.rest c.in_ok-node.ensures.from c.requires.within_limit len in
    let text : forest_cells c.args.forest.now.items ≡ forest_cells rest ++ cells n = rw c.in-Some.is at c.in_ok-node.ensures.text in
    sym (text ∙ ap (λ (ps : List Piece). forest_cells ps ++ cells n) none)

pub returns-clause-len : goal.returns-clause-len
returns-clause-len c =
    let n = c.in-Some.node.value in
    let rest = c.gather.new.forest.items in
    let len : forest_len c.args.forest.now.items ≡ forest_len rest + len_of n = rw c.in-Some.is at c.in_ok-node.ensures.len in
    let none : rest ≡ [] =
    all_taken c.args.forest.now.items rest (len_of n) c.in_ok-node.ensures.rest c.in_ok-node.ensures.from c.requires.within_limit len in
    let zero : forest_len rest ≡ 0 = ap forest_len none in
    omega (arith, len, zero)

pub returns-clause-parts_from : goal.returns-clause-parts_from
returns-clause-parts_from c =
    let n = c.in-Some.node.value in
    let rest = c.gather.new.forest.items in
    let len : forest_len c.args.forest.now.items ≡ forest_len rest + len_of n = rw c.in-Some.is at c.in_ok-node.ensures.len in
    let none : rest ≡ [] =
    all_taken c.args.forest.now.items rest (len_of n) c.in_ok-node.ensures.rest c.in_ok-node.ensures.from c.requires.within_limit len in
    let parts_from : PartsFrom (forest_parts c.args.forest.now.items) (forest_parts rest ++ parts n) = rw c.in-Some.is at
    c.in_ok-node.ensures.parts_from in
    subst (λ (ps : List Piece). PartsFrom (forest_parts c.args.forest.now.items) (forest_parts ps ++ parts n)) none parts_from
