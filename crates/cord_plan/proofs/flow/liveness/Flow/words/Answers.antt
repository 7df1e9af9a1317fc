use Rattle.std.specs.Prelude.{◌≡◌, ◌≤◌}
use Rattle.cord_plan.proofs.Common.{Bool, List, length, map, get_or, sym, ap, ◌∙◌, arith, take_all, get_or_from_slice_get, Statement}
use Rattle.cord_plan.proofs.Common.{assigns, read_by, reads, target_of, at, bit, column, IsNumbered}
use Rattle.cord_plan.proofs.Numbers.{line_there, number_reported}
use Rattle.cord_plan.proofs.Pushed.{made_more, size_more}
use Rattle.cord_plan.proofs.Sweeps.{assigned_at, readers_partly}
use Rattle.cord_plan.proofs.flow.liveness.Flow.words.Goals as goal

pub loop-place-preserved : goal.loop-place-preserved
loop-place-preserved c =
    let s = c.args.self.now.statements.now in
    let t = c.args.self.now.numbering.now in
    let before = c.loop-place.invariant in
    let test = c.loop-place-test.true in
    let one = c.push_reserved.ensures in
    let two = c.push_reserved-in-loop-place.ensures in
    let there = line_there t s c.requires c.loop-place.place test in
    let l = there.0 in
    let is : l ≡ get_or s c.loop-place.place l = sym (get_or_from_slice_get s c.loop-place.place l l there.1) in
    let numbered : IsNumbered t l c.line-numbers.result = c.line-numbers.ensures l there.2 in
    record {
      readers = size_more _ _ _ _ one.items before.readers;
      setters = size_more _ _ _ _ two.items before.setters;
      room_read = omega (arith, test, before.room_read, one.len, one.capacity);
      room_assigned = omega (arith, test, before.room_assigned, two.len, two.capacity);
      read = λ x i b. made_more (λ v. bit v i) (λ m. reads m x) s _ _ _ _ l test is (before.read x i b) one.items
          (c.mark_all.ensures t (read_by l) numbered.read x i b);
      assigned = λ x i b. made_more (λ v. bit v i) (λ m. assigns m x) s _ _ _ _ l test is (before.assigned x i b) two.items
          (c.mark_target.ensures t (target_of l) (number_reported t (target_of l) _ numbered.target) x i b);
    }

pub returns-clause-read : goal.returns-clause-read
returns-clause-read c =
    let s = c.args.self.now.statements.now in
    let over : length s ≤ c.loop-place.place = omega arith in
    record {
      size = c.loop-place.invariant.readers ∙ omega arith;
      reported = λ x i b. readers_partly s x (column c.loop-place.read.items i) (c.loop-place.invariant.read x i b
          ∙ ap (λ (ls : List Statement). map (λ m. reads m x) ls) (take_all c.loop-place.place s over));
    }

pub returns-clause-assigned : goal.returns-clause-assigned
returns-clause-assigned c =
    let s = c.args.self.now.statements.now in
    let over : length s ≤ c.loop-place.place = omega arith in
    record {
      size = c.loop-place.invariant.setters ∙ omega arith;
      reported = λ x i b p. ap (λ (table : List Bool). at table p) (c.loop-place.invariant.assigned x i b
          ∙ ap (λ (ls : List Statement). map (λ m. assigns m x) ls) (take_all c.loop-place.place s over)) ∙ assigned_at s x p;
    }

pub line-numbers-requires : goal.line-numbers-requires
line-numbers-requires c =
    let there = line_there c.args.self.now.numbering.now c.args.self.now.statements.now c.requires c.loop-place.place
    c.loop-place-test.true in
    (there.0, there.2)
