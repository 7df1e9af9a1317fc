use Rattle.std.proofs.Common.{◌≡◌, List, ◌∷◌, ◌+◌, [], drop, sym, subst, arith}
use Rattle.std.specs.List.{All}
use Rattle.std.proofs.lemmas.List.Elements.{All-nil}
use Rattle.cord_balance.specs.declared.forest.balanced_trees.Known.{Known}
use Rattle.std.proofs.lemmas.List.{drop_more, drop_all}
use Rattle.cord_balance.specs.declared.TheConstants.{MAX_INDEX}
use Rattle.cord_balance.proofs.States.{IsFilling}
use Rattle.cord_balance.proofs.Filling.{filling_start, filling_step, filling_none, filling_text, filling_from, filling_len}
use Rattle.std.proofs.Common.{ℕ, ◌<◌, ◌≤◌}
use Rattle.std.specs.Prelude.{Some, length}
use Rattle.cord_node.specs.Tree.{len_of, depth_of, count_of}
use Rattle.cord_node.specs.PartsFrom.{parts}
use Rattle.cord_node.proofs.TreeLemmas.{count_within_len, count_of-parts}
use Rattle.cord_balance.specs.Fib.{IsSlotOf}
use Rattle.cord_balance.specs.inner.Forest.{IsGatheredBelow, IsKnown}
use Rattle.cord_balance.proofs.FibLemmas.{fib_below}
use Rattle.cord_balance.proofs.PiecesLemmas.{joined_over}
use Rattle.cord_balance.proofs.balance_parts.Goals as goal

pub loop-rope-init : goal.loop-rope-init
loop-rope-init c = record {
  filling = filling_start c.args.ropes.now c.new-forest.result.items c.requires.sound c.new-forest.ensures.items;
  known = subst (λ (ks : List Known). All IsKnown ks) (sym c.new-known.ensures.items) (All-nil IsKnown);
}

pub loop-rope-preserved : goal.loop-rope-preserved
loop-rope-preserved c =
    let e : drop c.loop-rope.rope-index c.args.ropes.now ≡ c.rope-item.result ∷ drop (c.loop-rope.rope-index + 1) c.args.ropes.now =
    rw c.rope-item.is (drop_more c.args.ropes.now c.loop-rope.rope-index c.rope-item.result (omega arith)) in
    let i : IsFilling c.args.ropes.now (c.rope-item.result ∷ drop (c.loop-rope.rope-index + 1) c.args.ropes.now) c.loop-rope.forest.items =
    rw (← e) c.loop-rope.invariant.filling in
    record {
      filling = filling_step c.args.ropes.now c.rope-item.result (drop (c.loop-rope.rope-index + 1) c.args.ropes.now)
          c.loop-rope.forest.items c.insert_once.new.forest.items i c.in_ok-insert_once.ensures.rest c.in_ok-insert_once.ensures.text
          c.in_ok-insert_once.ensures.len c.in_ok-insert_once.ensures.parts_from;
      known = c.in_ok-insert_once.ensures.known;
    }

pub unreachable-requires : goal.unreachable-requires
unreachable-requires c =
    let e : drop c.loop-rope.rope-index c.args.ropes.now ≡ [] = drop_all c.loop-rope.rope-index c.args.ropes.now (omega arith) in
    let i : IsFilling c.args.ropes.now [] c.loop-rope.forest.items = rw (← e) c.loop-rope.invariant.filling in
    filling_none c.args.ropes.now c.loop-rope.forest.items c.gather.new.forest.items i c.requires.within_limit c.requires.not_empty
    c.requires.sound c.in_ok-node.ensures.rest c.in_ok-node.ensures.from (rw c.in-None.is at c.in_ok-node.ensures.len)

pub returns-clause-text : goal.returns-clause-text
returns-clause-text c =
    let e : drop c.loop-rope.rope-index c.args.ropes.now ≡ [] = drop_all c.loop-rope.rope-index c.args.ropes.now (omega arith) in
    let i : IsFilling c.args.ropes.now [] c.loop-rope.forest.items = rw (← e) c.loop-rope.invariant.filling in
    filling_text c.args.ropes.now c.loop-rope.forest.items c.gather.new.forest.items c.in-Some.node i c.requires.within_limit
    c.in_ok-node.ensures.rest c.in_ok-node.ensures.from (rw c.in-Some.is at c.in_ok-node.ensures.len)
    (rw c.in-Some.is at c.in_ok-node.ensures.text)

pub returns-clause-parts_from : goal.returns-clause-parts_from
returns-clause-parts_from c =
    let e : drop c.loop-rope.rope-index c.args.ropes.now ≡ [] = drop_all c.loop-rope.rope-index c.args.ropes.now (omega arith) in
    let i : IsFilling c.args.ropes.now [] c.loop-rope.forest.items = rw (← e) c.loop-rope.invariant.filling in
    filling_from c.args.ropes.now c.loop-rope.forest.items c.gather.new.forest.items c.in-Some.node i c.requires.within_limit
    c.in_ok-node.ensures.rest c.in_ok-node.ensures.from (rw c.in-Some.is at c.in_ok-node.ensures.len)
    (rw c.in-Some.is at c.in_ok-node.ensures.parts_from)

pub returns-clause-len : goal.returns-clause-len
returns-clause-len c =
    let e : drop c.loop-rope.rope-index c.args.ropes.now ≡ [] = drop_all c.loop-rope.rope-index c.args.ropes.now (omega arith) in
    let i : IsFilling c.args.ropes.now [] c.loop-rope.forest.items = rw (← e) c.loop-rope.invariant.filling in
    filling_len c.args.ropes.now c.loop-rope.forest.items c.gather.new.forest.items c.in-Some.node i c.requires.within_limit
    c.in_ok-node.ensures.rest c.in_ok-node.ensures.from (rw c.in-Some.is at c.in_ok-node.ensures.len)

pub returns-clause-slot : goal.returns-clause-slot
returns-clause-slot c = λ (n : ℕ) (i : IsSlotOf (len_of c.in-Some.node.value) n).
    let g : IsGatheredBelow MAX_INDEX (Some c.in-Some.node) = rw c.in-Some.is at c.in_ok-node.ensures.gathered in
    let few : count_of c.in-Some.node.value ≤ len_of c.in-Some.node.value = count_within_len c.in-Some.node.value g.0 in
    let h : depth_of c.in-Some.node.value < n + 1 = fib_below (depth_of c.in-Some.node.value) (n + 1) (omega (arith, g.1, i.below)) in
    omega arith

pub returns-clause-part_slot : goal.returns-clause-part_slot
returns-clause-part_slot c = λ (n : ℕ) (i : IsSlotOf (length (parts c.in-Some.node.value)) n).
    let g : IsGatheredBelow MAX_INDEX (Some c.in-Some.node) = rw c.in-Some.is at c.in_ok-node.ensures.gathered in
    let all : count_of c.in-Some.node.value ≡ length (parts c.in-Some.node.value) = count_of-parts c.in-Some.node.value g.0 in
    let h : depth_of c.in-Some.node.value < n + 1 = fib_below (depth_of c.in-Some.node.value) (n + 1) (omega (arith, g.1, i.below)) in
    omega arith

pub returns-clause-over : goal.returns-clause-over
returns-clause-over c =
    let g : IsGatheredBelow MAX_INDEX (Some c.in-Some.node) = rw c.in-Some.is at c.in_ok-node.ensures.gathered in
    joined_over c.args.ropes.now c.in-Some.node.value g.0 (returns-clause-text c)
