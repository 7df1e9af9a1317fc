use Rattle.std.proofs.Common.{◌≤◌}
use Rattle.std.proofs.lemmas.Result.{on_ok_weaker}
use Rattle.cord_node.specs.Tree.{count_of, depth_of}
use Rattle.cord_node.specs.PartsFrom.{parts}
use Rattle.cord_node.proofs.TreeLemmas.{count_limit, count_positive}
use Rattle.cord_balance.specs.Fib.{IsSlotOf}
use Rattle.cord_balance.specs.inner.Forest.{forest_parts, piece_parts}
use Rattle.cord_balance.proofs.ForestLemmas.{AllFrom-lower}
use Rattle.cord_balance.proofs.Inserting.{gathered_fits, joined_depth_in_slot, insert_from}
use Rattle.cord_balance.proofs.forest.slots.insert.Goals as goal

pub slot_of-slot-requires-clause-not_empty : goal.slot_of-slot-requires-clause-not_empty
slot_of-slot-requires-clause-not_empty c = rw (c.part_count.ensures.stored, c.deref.ensures) (count_positive c.args.node.value c.requires.sound)

pub slot_of-slot-requires-clause-within_limit : goal.slot_of-slot-requires-clause-within_limit
slot_of-slot-requires-clause-within_limit c = rw (c.part_count.ensures.stored, c.deref.ensures) (count_limit c.args.node.value c.requires.sound)

pub put_right-requires-clause-left_fits : goal.put_right-requires-clause-left_fits
put_right-requires-clause-left_fits c =
    let i : IsSlotOf (count_of c.args.node.value) c.slot_of-slot.result =
    rw (← c.deref.ensures, ← c.part_count.ensures.stored) c.slot_of-slot.ensures in
    gathered_fits c.slot_of-slot.result (count_of c.args.node.value) c.in_ok-small.small i c.in_ok-small.ensures.gathered

pub merge-requires-clause-beyond : goal.merge-requires-clause-beyond
merge-requires-clause-beyond c =
    let i : IsSlotOf (count_of c.args.node.value) c.slot_of-slot.result =
    rw (← c.deref.ensures, ← c.part_count.ensures.stored) c.slot_of-slot.ensures in
    let d : depth_of c.in_ok-joined.joined.value ≤ c.slot_of-slot.result =
    joined_depth_in_slot c.slot_of-slot.result (count_of c.args.node.value) (depth_of c.args.node.value)
    (depth_of c.in_ok-joined.joined.value) c.in_ok-small.small i c.in_ok-small.ensures.gathered c.requires.balanced
    c.in_ok-joined.ensures.alone c.in_ok-joined.ensures.depth in
    AllFrom-lower (depth_of c.in_ok-joined.joined.value) c.slot_of-slot.result c.gather.new.forest.items d c.in_ok-small.ensures.from

pub returns-clause-parts_from : goal.returns-clause-parts_from
returns-clause-parts_from c = on_ok_weaker c.merge.result (λ k. insert_from (forest_parts c.args.forest.now.items)
    (forest_parts c.gather.new.forest.items) (piece_parts c.in_ok-small.small) (parts c.args.node.value)
    (parts c.in_ok-joined.joined.value) (forest_parts c.merge.new.forest.items) c.in_ok-small.ensures.parts_from
    c.in_ok-joined.ensures.parts_from k)
    c.merge.ensures.parts_from
