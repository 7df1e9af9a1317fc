use Rattle.std.proofs.Common.{◌≡◌, arith, ap, subst, ◌∙◌, rules}
use Rattle.std.specs.Prelude.{IfOk}
use Rattle.std.specs.Rc.{rc_with_value}
use Rattle.std.proofs.lemmas.Grind.{common_steps}
use Rattle.std.proofs.lemmas.Result.{IfOk-weaker}
use Rattle.cord_node.specs.Tree.{len_of}
use Rattle.cord_node.specs.Cords.{node_in}
use Rattle.cord_node.specs.inner.Splices.{IsSplice}
use Rattle.cord_node.specs.inner.Splices.{AreSides}
use Rattle.cord_node.proofs.SpliceLemmas.{left_changed, right_changed_at, both_changed_at, HasSides, sides_are, joined_spliced, join_is}
use Rattle.cord_node.proofs.edit.+splice_node.Goals as goal

pub splice_node-returns-in-Some : goal.splice_node-returns-in-Some
splice_node-returns-in-Some t c = record {
  splice = subst (λ n. IfOk c.splice_in_place.result (λ _. IsSplice c.args.from c.args.until (node_in c.args.middle.now) n
      c.splice_in_place.new.node)) c.in-Some.ensures.value c.splice_in_place.ensures.splice;
  unchanged = λ e. ap (rc_with_value c.args.node.now) (c.splice_in_place.ensures.unchanged e ∙ c.in-Some.ensures.value);
}

pub splice_shared-join-requires-clause-shallow : goal.splice_shared-join-requires-clause-shallow
splice_shared-join-requires-clause-shallow t c =
    let sides : AreSides c.args.node.now.value c.in_ok-left.left.value c.in_ok-left.right.value =
    subst (λ n. AreSides n c.in_ok-left.left.value c.in_ok-left.right.value) c.deref.ensures c.in_ok-left.ensures in
    let a : HasSides c.args.node.now.value c.in_ok-left.left.value c.in_ok-left.right.value =
    sides_are c.args.node.now.value c.in_ok-left.left.value c.in_ok-left.right.value c.requires.editable.sound sides in
    omega (arith, a.depth, c.in_ok-splice_sides.ensures.splice.depth, c.requires.editable.shallow)

pub splice_shared-returns-clause-splice : goal.splice_shared-returns-clause-splice
splice_shared-returns-clause-splice t c =
    let sides : AreSides c.args.node.now.value c.in_ok-left.left.value c.in_ok-left.right.value =
    subst (λ n. AreSides n c.in_ok-left.left.value c.in_ok-left.right.value) c.deref.ensures c.in_ok-left.ensures in
    joined_spliced c.args.from c.args.until (node_in c.args.middle.now) c.args.node.now.value c.in_ok-left.left.value
    c.in_ok-left.right.value c.splice_sides.new.left.value c.splice_sides.new.right.value c.in_ok-new.new.value
    c.requires.editable.sound sides
    c.in_ok-splice_sides.ensures.splice
    (join_is c.splice_sides.new.left.value c.splice_sides.new.right.value c.in_ok-new.new.value c.in_ok-new.ensures.sound
    c.in_ok-new.ensures.text c.in_ok-new.ensures.len c.in_ok-new.ensures.depth_bound c.in_ok-new.ensures.parts_from)

pub splice_sides-returns-in-Left-clause-splice : goal.splice_sides-returns-in-Left-clause-splice
splice_sides-returns-in-Left-clause-splice t c = IfOk-weaker _ _ _ (λ _ i. left_changed c.args.from c.args.until
    (node_in c.args.middle.now) c.args.left.now.value c.args.right.now.value c.splice_node.new.node.value c.requires.order
    c.requires.left_sound c.requires.right_sound (c.requires.left c.in-Left.is) i) c.splice_node.ensures.splice

pub splice_sides-returns-in-Right-clause-splice : goal.splice_sides-returns-in-Right-clause-splice
splice_sides-returns-in-Right-clause-splice t c =
    let seam : c.len-seam.result ≡ len_of c.args.left.now.value = grind (arith, common_steps) in
    IfOk-weaker _ _ _ (λ _ i. right_changed_at c.args.from c.args.until c.len-seam.result (node_in c.args.middle.now)
    c.args.left.now.value c.args.right.now.value c.splice_node-in-Right.new.node.value seam c.requires.order c.requires.left_sound
    c.requires.right_sound (c.requires.right c.in-Right.is) i) c.splice_node-in-Right.ensures.splice

pub splice_seam-returns-then-goes_left-clause-splice : goal.splice_seam-returns-then-goes_left-clause-splice
splice_seam-returns-then-goes_left-clause-splice t c = IfOk-weaker _ _ _ (λ _ i. left_changed c.args.from c.args.until
    (node_in c.args.middle.now) c.args.left.now.value c.args.right.now.value c.splice_node.new.node.value c.requires.order
    c.requires.left_sound c.requires.right_sound c.requires.seam.0 i) c.splice_node.ensures.splice

pub splice_seam-returns-clause-splice : goal.splice_seam-returns-clause-splice
splice_seam-returns-clause-splice t c =
    let seam : c.len-seam.result ≡ len_of c.args.left.now.value = grind (arith, common_steps) in
    IfOk-weaker _ _ _ (λ _ i. right_changed_at c.args.from c.args.until c.len-seam.result (node_in c.args.middle.now)
    c.args.left.now.value c.args.right.now.value c.splice_node-2.new.node.value seam c.requires.order c.requires.left_sound
    c.requires.right_sound c.requires.seam.1 i) c.splice_node-2.ensures.splice

pub splice_both-returns-clause-splice : goal.splice_both-returns-clause-splice
splice_both-returns-clause-splice t c =
    let seam : c.len-seam.result ≡ len_of c.args.left.now.value = grind (arith, common_steps) in
    let end : c.len.result ≡ len_of c.args.right.now.value = grind (arith, common_steps) in
    both_changed_at c.args.from c.args.until c.len-seam.result c.len.result (node_in c.args.middle.now) c.args.left.now.value
    c.args.right.now.value c.splice_node.new.node.value c.in_ok-rest.rest.value seam end c.requires.order
    c.requires.left_sound c.requires.right_sound c.requires.both c.in_ok-splice_node.ensures.splice
    c.in_ok-rest.ensures.sound c.in_ok-rest.ensures.text c.in_ok-rest.ensures.len
    c.in_ok-rest.ensures.depth c.in_ok-rest.ensures.parts_from

pub splice_in_place-returns-clause-splice : goal.splice_in_place-returns-clause-splice
splice_in_place-returns-clause-splice t c = search rules

pub splice_sides-splice_node-requires : goal.splice_sides-splice_node-requires
splice_sides-splice_node-requires t c = search rules
