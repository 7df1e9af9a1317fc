use Rattle.std.proofs.Common.{◌<◌, ◌≤◌, arith, sym}
use Rattle.cord_io.specs.declared.TheConstants.{MAX_LEN}
use Rattle.cord_balance.specs.declared.TheConstants.{MAX_INDEX}
use Rattle.cord_node.specs.Tree.{count_of}
use Rattle.cord_node.proofs.TreeLemmas.{count_limit, count_positive}
use Rattle.cord_balance.specs.Fib.{IsSlotOf}
use Rattle.cord_balance.proofs.States.{IsMerging, IsJoinOf}
use Rattle.cord_balance.proofs.FibLemmas.{fib_index}
use Rattle.cord_balance.proofs.ForestLemmas.{forest_cells-snoc, forest_len-snoc, forest_parts-snoc}
use Rattle.cord_balance.proofs.Merging.{merging_start, merging_step, merging_end, merging_total, merging_depth}
use Rattle.cord_balance.proofs.forest.slots.merge.Goals as goal

pub slot_of-slot-requires-clause-not_empty : goal.slot_of-slot-requires-clause-not_empty
slot_of-slot-requires-clause-not_empty c = rw (c.part_count.ensures.stored, c.deref.ensures) (count_positive c.args.node.value c.requires.sound)

pub slot_of-slot-requires-clause-within_limit : goal.slot_of-slot-requires-clause-within_limit
slot_of-slot-requires-clause-within_limit c = rw (c.part_count.ensures.stored, c.deref.ensures) (count_limit c.args.node.value c.requires.sound)

pub loop-piece-init : goal.loop-piece-init
loop-piece-init c =
    let i : IsSlotOf (count_of c.args.node.value) c.slot_of-slot.result =
    rw (← c.deref.ensures, ← c.part_count.ensures.stored) c.slot_of-slot.ensures in
    merging_start c.args.forest.now.items c.args.node c.slot_of-slot.result c.requires.forest c.requires.sound i c.requires.shallow
    c.requires.beyond

pub overflow_add-slot : goal.overflow_add-slot
overflow_add-slot c =
    let l : count_of c.loop-piece.joined.value ≤ MAX_LEN = count_limit c.loop-piece.joined.value c.loop-piece.invariant.sound in
    let k : c.loop-piece.slot < MAX_INDEX = fib_index c.loop-piece.slot (omega (arith, c.loop-piece.invariant.slot_is.above)) in
    omega arith

pub join-requires-clause-within_limit : goal.join-requires-clause-within_limit
join-requires-clause-within_limit c = merging_total c.args.forest.now.items c.pop_below.new.forest.items c.in-Some.piece c.args.node
    c.loop-piece.joined c.loop-piece.slot (rw (← c.in-Some.ensures.taken) c.loop-piece.invariant) c.requires.within_limit

pub join-requires-clause-shallow : goal.join-requires-clause-shallow
join-requires-clause-shallow c = merging_depth c.args.forest.now.items c.pop_below.new.forest.items c.in-Some.piece c.args.node
    c.loop-piece.joined c.loop-piece.slot (rw (← c.in-Some.ensures.taken) c.loop-piece.invariant) c.in-Some.ensures.below
    c.requires.within_limit

pub slot_of-slot-requires-in-Some-clause-not_empty :
    goal.slot_of-slot-requires-in-Some-clause-not_empty
slot_of-slot-requires-in-Some-clause-not_empty c = rw (c.part_count-in-Some.ensures.stored, c.deref-in-Some.ensures)
    (count_positive c.in_ok-joined.joined.value c.in_ok-joined.ensures.sound)

pub slot_of-slot-requires-in-Some-clause-within_limit :
    goal.slot_of-slot-requires-in-Some-clause-within_limit
slot_of-slot-requires-in-Some-clause-within_limit c = rw (c.part_count-in-Some.ensures.stored, c.deref-in-Some.ensures)
    (count_limit c.in_ok-joined.joined.value c.in_ok-joined.ensures.sound)

pub loop-piece-preserved : goal.loop-piece-preserved
loop-piece-preserved c =
    let i : IsSlotOf (count_of c.in_ok-joined.joined.value) c.slot_of-slot-in-Some.result =
    rw (← c.deref-in-Some.ensures, ← c.part_count-in-Some.ensures.stored) c.slot_of-slot-in-Some.ensures in
    let u : IsJoinOf c.in-Some.piece.node c.loop-piece.joined c.in_ok-joined.joined =
    record {
      sound = c.in_ok-joined.ensures.sound;
      text = c.in_ok-joined.ensures.text;
      len = c.in_ok-joined.ensures.len;
      depth = c.in_ok-joined.ensures.depth_bound;
      depth_is = c.in_ok-joined.ensures.depth;
      count = c.in_ok-joined.ensures.count;
      parts_from = c.in_ok-joined.ensures.parts_from;
    } in
    merging_step c.args.forest.now.items c.pop_below.new.forest.items c.in-Some.piece c.args.node c.loop-piece.joined c.in_ok-joined.joined
    c.loop-piece.slot c.slot_of-slot-in-Some.result (rw (← c.in-Some.ensures.taken) c.loop-piece.invariant) c.in-Some.ensures.below u i

pub returns-clause-rest : goal.returns-clause-rest
returns-clause-rest c =
    let g : IsMerging c.args.forest.now.items c.pop_below.new.forest.items c.args.node c.loop-piece.joined c.loop-piece.slot =
    rw c.in_default.ensures.unchanged c.loop-piece.invariant in
    rw c.in_ok-push.ensures.items (merging_end c.args.forest.now.items c.pop_below.new.forest.items c.args.node c.loop-piece.joined
    c.loop-piece.slot g c.in_default.ensures.none)

pub returns-clause-text : goal.returns-clause-text
returns-clause-text c = rw (c.in_ok-push.ensures.items, forest_cells-snoc, c.in_default.ensures.unchanged) (sym c.loop-piece.invariant.text)

pub returns-clause-len : goal.returns-clause-len
returns-clause-len c = rw (c.in_ok-push.ensures.items, forest_len-snoc, c.in_default.ensures.unchanged) (sym c.loop-piece.invariant.len)

pub returns-clause-parts_from : goal.returns-clause-parts_from
returns-clause-parts_from c = rw (c.in_ok-push.ensures.items, forest_parts-snoc, c.in_default.ensures.unchanged)
    c.loop-piece.invariant.parts_from
