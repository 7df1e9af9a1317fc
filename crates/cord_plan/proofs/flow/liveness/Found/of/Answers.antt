use Rattle.std.specs.Prelude.{◌≡◌, ◌+◌}
use Rattle.cord_plan.proofs.Common.{Some, Global, Vec, drop, subst, arith, slice_get, IsLineLater, later_in, LineLater}
use Rattle.cord_plan.proofs.Numbers.{covers}
use Rattle.cord_plan.proofs.StraightLineReads.{lines_report}
use Rattle.cord_plan.proofs.LivenessTables.{reports_exactly}
use Rattle.cord_plan.proofs.flow.liveness.Found.of.Goals as goal

pub returns-then-not-has_blocks : goal.returns-then-not-has_blocks
returns-then-not-has_blocks c =
    let s = c.args.statements.now in
    record {
      later = lines_report s (c.has_blocks.ensures c.if-not-has_blocks.true);
      reported = λ p l e lines is.
          (let same : c.in_ok-lines_later.field-0 ≡ lines = cc in
          subst (λ (v : Vec LineLater Global). (line : LineLater) × (slice_get v.items p ≡ Some line)
          × IsLineLater l (λ x. later_in (drop (p + 1) s) x) line) same (c.in_ok-lines_later.ensures p l (omega arith) e));
    }

pub returns : goal.returns
returns c = record {
  later = reports_exactly c.args.statements.now c.args.numbering.now c.in_ok-successors.successors.items c.in_ok-groups.groups.items
      c.in_ok-successors.ensures (covers c.args.numbering.now c.args.statements.now c.requires) c.in_ok-groups.ensures;
  reported = λ p l e lines is. (let bad : ⊥ = cc in absurd bad);
}
