use Rattle.std.proofs.Common.{ℕ, refl, sym, append-nil, map, arith}
use Rattle.std.proofs.lemmas.List.{length-set}
use Rattle.std.specs.Int.Digits.{digits_of}
use Rattle.cord_printf.specs.PieceText.{base_of, figure}
use Rattle.cord_printf.proofs.Figures.{digits_room, digits_shorter, figures_before}
use Rattle.cord_printf.proofs.digits.in_base.Goals as goal

pub digits-init : goal.digits-init
digits-init c = record {
  written = sym (append-nil (map (figure c.args.radix) (digits_of (base_of c.args.radix) c.args.number)));
  room = digits_room c.args.radix c.args.number c.ranges.number.fits;
  within = omega arith;
  size = refl;
}

pub digits-preserved : goal.digits-preserved
digits-preserved c =
    let all = map (figure c.args.radix) (digits_of (base_of c.args.radix) c.args.number) in
    let step = figures_before c.args.radix c.digits.rest c.base-base.result c.figure_of.result c.digits.start c.digits.bytes all
    c.base-base.ensures c.figure_of.ensures c.digits-test.true c.digits.invariant.within c.digits.invariant.room
    c.digits.invariant.written in
    record {
      written = step.written;
      room = step.room;
      within = omega (arith, length-set {A = ℕ});
      size = omega (arith, length-set {A = ℕ}, c.digits.invariant.size);
    }

pub overflow_sub-start : goal.overflow_sub-start
overflow_sub-start c = omega (arith, digits_shorter c.args.radix c.digits.rest c.digits-test.true)
