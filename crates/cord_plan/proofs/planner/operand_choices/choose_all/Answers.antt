use Rattle.std.specs.Prelude.{◌≡◌, ◌+◌, ◌∷◌}
use Rattle.cord_plan.proofs.Common.{ℕ, List, [], map, drop, length, Some, refl, sym, ap, subst, ◌∙◌, arith, length-append, slice_get}
use Rattle.cord_plan.proofs.Common.{slice_get_read, map-append, at_drop_all, length-map, choice_view, IsChoice, operand_names, reports}
use Rattle.cord_plan.proofs.Common.{table_view}
use Rattle.cord_plan.specs.declared.planner.operand_choices.Choice.{Choice}
use Rattle.cord_plan.specs.Inlined as plain
use Rattle.cord_plan.proofs.Choices.{more_chosen, simple_reads}
use Rattle.cord_plan.proofs.planner.operand_choices.choose_all.Goals as goal

pub loop-operand-preserved : goal.loop-operand-preserved
loop-operand-preserved c =
    let line = c.args.line.now in
    let s = line.statements.now in
    let later = reports line.recent.now.later.now in
    let b = line.place in
    let l = line.statement.now in
    let xs = c.args.operands.now in
    let i = c.loop-operand.operand-index in
    let x = c.operand-item.result in
    let done = map choice_view c.loop-operand.chosen.items in
    let made : IsChoice s later b l xs x (table_view c.args.operations.now) done
    (choice_view c.choose-choice.result) =
    subst (λ (ys : List (List ℕ)). IsChoice s later b l ys x (table_view c.args.operations.now) done
    (choice_view c.choose-choice.result)) c.requires.listed
    (subst (λ (cs : List Choice). IsChoice s later b l (operand_names line.operands) x
    (table_view c.args.operations.now)
    (map choice_view cs) (choice_view c.choose-choice.result)) c.deref.ensures.value c.choose-choice.ensures) in
    let size : length done ≡ i = length-map c.loop-operand.chosen.items choice_view ∙ c.loop-operand.invariant.size in
    let push = c.push_reserved.ensures in
    let long : length c.push_reserved.new.self.items ≡ length c.loop-operand.chosen.items + 1 =
    ap length push.items ∙ length-append c.loop-operand.chosen.items (c.choose-choice.result ∷ []) in
    record {
      size = omega arith;
      room = omega (arith, c.loop-operand-test.true, c.loop-operand.invariant.room, push.len, push.capacity);
      so_far = λ t has.
          ap (λ (cs : List Choice). plain.choices s later t b l (map choice_view cs) (drop (i + 1) xs)) push.items
          ∙ (ap (λ (ds : List plain.Choice). plain.choices s later t b l ds (drop (i + 1) xs))
          (map-append choice_view c.loop-operand.chosen.items (c.choose-choice.result ∷ []))
          ∙ (more_chosen s later t b l xs done (choice_view c.choose-choice.result) i x c.loop-operand-test.true c.operand-item.is size
          (made t has)
          ∙ c.loop-operand.invariant.so_far t has));
    }

pub returns : goal.returns
returns c =
    let line = c.args.line.now in
    let s = line.statements.now in
    let later = reports line.recent.now.later.now in
    let b = line.place in
    let l = line.statement.now in
    let xs = c.args.operands.now in
    let done = map choice_view c.loop-operand.chosen.items in
    λ t has.
    sym (at_drop_all (λ (ys : List (List ℕ)). plain.choices s later t b l done ys) xs c.loop-operand.operand-index
    c.loop-operand-test.false)
    ∙ (c.loop-operand.invariant.so_far t has
    ∙ ap (λ (ys : List (List ℕ)). plain.choices s later t b l [] ys)
    (sym (simple_reads l xs (c.requires.line.operands ∙ ap (λ (ys : List (List ℕ)). Some ys) c.requires.listed))))

pub choose-choice-requires-clause-operand : goal.choose-choice-requires-clause-operand
choose-choice-requires-clause-operand c =
    let xs = c.args.operands.now in
    let i = c.loop-operand.operand-index in
    let x = c.operand-item.result in
    let size : length c.deref.result.now ≡ i = ap length c.deref.ensures.value ∙ c.loop-operand.invariant.size in
    let there : slice_get xs i ≡ Some x = slice_get_read xs (length xs) i x refl c.loop-operand-test.true c.operand-item.is in
    rw (c.requires.listed, size) there
