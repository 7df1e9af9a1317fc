use Rattle.std.specs.Prelude.{◌≡◌, ◌+◌, ◌-◌, ◌<◌}
use Rattle.cord_plan.proofs.Common.{List, ℕ, Option, None, [], drop, length, sym, ap, subst, ◌∙◌, arith, rules, replicate, length-set, is_some}
use Rattle.cord_plan.proofs.Common.{slice_get_within, Statement, read_by, target_of, entry_at, AreNextReads, IsLineLater, later_in, IsNumbered}
use Rattle.cord_plan.proofs.Common.{LineLater}
use Rattle.std.proofs.Math.Seq.{drop-length}
use Rattle.cord_plan.proofs.Begun.{written_back}
use Rattle.cord_plan.proofs.StraightLine.{from_place, line_is, none_read_next, reported_more}
use Rattle.cord_plan.proofs.Numbers.{line_there, number_reported}
use Rattle.cord_plan.proofs.flow.straight_line.lines_later.Goals as goal

pub loop-place-init : goal.loop-place-init
loop-place-init c =
    let s = c.args.statements.now in
    let t = c.args.numbering.now in
    let none : c.in_ok-next_reads.next_reads.items ≡ replicate c.count.result None =
    c.in_ok-next_reads.ensures.items_if_clones_equal (λ x h. search rules) in
    record {
      size = omega (arith, c.in_ok-lines.ensures.len);
      next_reads = rw (drop-length s) (subst (λ (places : List (Option ℕ)). AreNextReads [] t places)
          (sym (none ∙ ap (λ (n : ℕ). replicate n None) c.count.ensures)) (none_read_next t));
      reported = λ k l le e. (let lt : k < length s = slice_get_within s k l e in absurd (omega (arith, le, lt)));
    }

pub line-numbers-requires : goal.line-numbers-requires
line-numbers-requires c =
    let s = c.args.statements.now in
    let lt : c.loop-place.place - 1 < length s = omega (arith, c.loop-place-test.true, c.loop-place.auto.place) in
    let there = line_there c.args.numbering.now s c.requires (c.loop-place.place - 1) lt in
    (there.0, there.2)

pub loop-place-preserved : goal.loop-place-preserved
loop-place-preserved c =
    let s = c.args.statements.now in
    let t = c.args.numbering.now in
    let q = c.loop-place.place in
    let p = q - 1 in
    let before = c.loop-place.invariant in
    let lines = c.loop-place.lines.items in
    let numbers = c.line-numbers.result in
    let places = c.loop-place.next_reads.items in
    let new = c.go_back.new.next_reads in
    let size : length new ≡ c.loop-place.next_reads.len = c.go_back.auto.next_reads ∙ c.deref_mut.ensures.len in
    let next : q ≡ p + 1 = omega (arith, c.loop-place-test.true) in
    let lt : p < length s = omega (arith, c.loop-place-test.true, c.loop-place.auto.place) in
    let there = line_there t s c.requires p lt in
    let l = there.0 in
    let numbered : IsNumbered t l numbers = c.line-numbers.ensures l there.2 in
    let line : LineLater = record { target = c.is_read.result; operands = c.operand_bits.result } in
    let reported : IsLineLater l (λ x. later_in (drop q s) x) line =
    line_is t places (drop q s) l line numbers.target before.next_reads
    (c.is_read.ensures ∙ ap (λ (ps : List (Option ℕ)). is_some (entry_at ps numbers.target)) c.deref.ensures.value)
    (number_reported t (target_of l) numbers.target numbered.target)
    (rw c.deref-in-loop-place.ensures.value at (c.operand_bits.ensures t (read_by l) numbered.read)) in
    record {
      size = length-set lines p line ∙ before.size;
      next_reads = rw (written_back c.loop-place.next_reads.len new places size) (subst (λ (ls : List Statement). AreNextReads ls t new)
          (from_place s p q l next there.1) (c.go_back.ensures t l (drop q s) numbered (rw c.deref_mut.ensures.value before.next_reads)));
      reported = reported_more s p q lines line l next (let size = before.size in omega (arith, lt, size)) there.1 reported before.reported;
    }
