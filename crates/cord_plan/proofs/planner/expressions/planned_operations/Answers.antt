use Rattle.std.specs.Prelude.{◌≡◌, ◌∷◌, ◌++◌}
use Rattle.cord_plan.proofs.Common.{[], Some, false, length, map, refl, sym, ap, ◌∙◌, arith, rules, option_map, slice_get}
use Rattle.cord_plan.proofs.Common.{slice_get_read, length-map, map-append, reports, table_view, expr_view, is_dead, operation, operation_view}
use Rattle.cord_plan.proofs.Common.{or_nothing, target_of, IsNumbered}
use Rattle.cord_plan.specs.inner.Choices.{IsNext}
use Rattle.cord_plan.proofs.Begun.{all_begun, begun_none, begun_then, has_expression, longer_then, written_back}
use Rattle.cord_plan.proofs.Numbers.{line_there}
use Rattle.cord_plan.proofs.planner.expressions.planned_operations.Goals as goal

pub loop-place-preserved : goal.loop-place-preserved
loop-place-preserved c =
    let s = c.args.statements.now in
    let later = reports c.args.later.now in
    let b = c.loop-place.place in
    let l = c.index-statements-place.result in
    let old = c.loop-place.taken.items in
    let new = c.next_expression.new.taken in
    let before = c.loop-place.invariant in
    let within = c.loop-place-test.true in
    let push = c.push_reserved.ensures in
    let more = c.push_reserved-in-loop-place.ensures in
    let made = map operation_view c.loop-place.operations.items in
    let facts = c.next_expression.new.known in
    let entry = c.in_ok-next.next in
    let size : length new ≡ c.loop-place.taken.len = c.next_expression.auto.taken ∙ c.deref_mut.ensures.len in
    let next : IsNext s later b l (table_view c.loop-place.operations.items) old new facts entry =
    rw (← before.later, ← c.deref.ensures.value, ← c.deref_mut.ensures.value) c.in_ok-next.ensures in
    let here : slice_get s b ≡ Some l = slice_get_read s (length s) b l refl within c.index-statements-place.is in
    let numbered : IsNumbered c.args.later.now.numbering l c.line-numbers.result = c.line-numbers.ensures l (c.requires.numbered b l here) in
    let o = operation_view c.in-Ok.operation in
    let dead = c.is_dead-dead.ensures l numbered.target (c.requires.reported b l here) in
    let is_made : o ≡ operation l (or_nothing (option_map expr_view entry.0)) (is_dead later b (target_of l)) false =
    c.in-Ok.ensures.made ∙ ap (λ v. operation l (or_nothing (option_map expr_view entry.0)) v false) dead in
    let grown : map operation_view c.push_reserved.new.self.items ≡ made ++ o ∷ [] =
    ap (map operation_view) push.items ∙ map-append operation_view c.loop-place.operations.items (c.in-Ok.operation ∷ []) in
    record {
      begun = rw (grown, written_back c.loop-place.taken.len new old size)
          (begun_then s later b l made old new within c.index-statements-place.is before.begun facts entry next o is_made);
      room = omega (arith, within, before.room, push.len, push.capacity);
      made_listed = omega (arith, push.len, before.made_listed);
      listed = omega (arith, more.len, before.listed);
      extending_room = omega (arith, within, before.extending_room, more.len, more.capacity);
      longer = rw more.items
          (longer_then s later b l made old new within c.index-statements-place.is before.begun facts entry next
          c.loop-place.extending.items (sym c.loop-place.extending.ok.0 ∙ before.listed) before.longer);
      later = c.note.ensures.later ∙ before.later;
      recent = c.note.ensures.recent s here before.recent;
      known = rw (grown, has_expression s later b l made old new within c.index-statements-place.is before.begun facts entry next o is_made)
          next.known;
    }

pub loop-place-init : goal.loop-place-init
loop-place-init c = record {
  begun = rw c.in_ok-operations.ensures.items (begun_none c.args.statements.now (reports c.args.later.now) c.in_ok-taken.taken.items
      (c.in_ok-taken.ensures.items_if_clones_equal (λ x h. search rules)));
  room = omega (arith, c.in_ok-operations.ensures.len, c.in_ok-operations.ensures.capacity);
  made_listed = omega (arith, c.in_ok-operations.ensures.len);
  listed = omega (arith, c.in_ok-extending.ensures.len);
  extending_room = omega (arith, c.in_ok-extending.ensures.len, c.in_ok-extending.ensures.capacity);
  longer = rw c.in_ok-extending.ensures.items (λ place reported. let bad : ⊥ = cc in absurd bad);
  later = c.in_ok-recent.ensures.later;
  recent = c.in_ok-recent.ensures.recent c.args.statements.now c.requires.numbered;
  known = record {
    size = ap length (ap table_view c.in_ok-operations.ensures.items);
    facts = c.in_ok-known.ensures c.args.statements.now 0 (table_view c.in_ok-operations.operations.items);
  };
}

pub returns-clause-extending : goal.returns-clause-extending
returns-clause-extending c = c.loop-place.invariant.longer

pub measure_taken-requires : goal.measure_taken-requires
measure_taken-requires c = rw (c.deref_mut-2.ensures.value, c.deref-2.ensures.value) (omega (
  arith,
  c.loop-place.operations.ok.0,
  c.loop-place.invariant.made_listed,
  c.loop-place.invariant.begun.size,
  c.loop-place-test.false,
  c.loop-place.auto.place-end,
))

pub returns-clause-made : goal.returns-clause-made
returns-clause-made c =
    let s = c.args.statements.now in
    let later = reports c.args.later.now in
    let vec = c.loop-place.operations in
    ap (map operation_view) (written_back vec.len c.measure_taken.new.operations vec.items (c.measure_taken.auto.operations
    ∙ c.deref_mut-2.ensures.len))
    ∙ c.measure_taken.ensures s later (rw (c.deref_mut-2.ensures.value, c.deref-2.ensures.value)
    (all_begun s later c.loop-place.place (map operation_view vec.items) c.loop-place.taken.items c.loop-place-test.false
    (omega (
      arith,
      length-map vec.items operation_view,
      vec.ok.0,
      c.loop-place.invariant.made_listed,
      c.loop-place.invariant.begun.size,
      c.loop-place-test.false,
      c.loop-place.auto.place-end,
    )) c.loop-place.invariant.begun))

pub line-numbers-requires : goal.line-numbers-requires
line-numbers-requires c =
    let there = line_there c.args.later.now.numbering c.args.statements.now c.requires.numbered c.loop-place.place c.loop-place-test.true in
    (there.0, there.2)

pub note-requires : goal.note-requires
note-requires c = rw c.loop-place.invariant.later (c.line-numbers.ensures _ (c.requires.numbered _ _
    (slice_get_read _ _ _ _ refl c.loop-place-test.true c.index-statements-place.is)))

pub next_expression-requires-clause-numbers : goal.next_expression-requires-clause-numbers
next_expression-requires-clause-numbers c = rw c.loop-place.invariant.later (c.line-numbers.ensures _ (c.requires.numbered _ _
    (slice_get_read _ _ _ _ refl c.loop-place-test.true c.index-statements-place.is)))

pub next_expression-requires-clause-known : goal.next_expression-requires-clause-known
next_expression-requires-clause-known c = rw c.deref.ensures.value c.loop-place.invariant.known

pub next_expression-requires-clause-here : goal.next_expression-requires-clause-here
next_expression-requires-clause-here c = slice_get_read _ _ _ _ refl c.loop-place-test.true c.index-statements-place.is

pub next_expression-requires-clause-reported : goal.next_expression-requires-clause-reported
next_expression-requires-clause-reported c = rw c.loop-place.invariant.later c.requires.reported
