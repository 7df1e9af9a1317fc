use Rattle.std.proofs.Common.{refl}
use Rattle.cord_printf.proofs.Begins.{none_of, no_letter, no_width, no_precision, no_piece, not_allowed, converts}
use Rattle.cord_printf.proofs.conversions.conversion.Goals as goal

pub returns-in_err-letter-clause-none : goal.returns-in_err-letter-clause-none
returns-in_err-letter-clause-none c =
    let parts = c.split_parts-parts.result in
    none_of c.from_residual.result (no_letter c.args.bytes.now parts.marks.now parts.digits.now parts.point.now parts.modifier.now
    parts.rest.now c.split_parts-parts.ensures c.in_err-letter.ensures)

pub returns-in_err-width-clause-none : goal.returns-in_err-width-clause-none
returns-in_err-width-clause-none c =
    let parts = c.split_parts-parts.result in
    none_of c.from_residual-in_err-width.result (no_width c.args.bytes.now parts.marks.now parts.digits.now parts.point.now
    parts.modifier.now parts.rest.now c.split_parts-parts.ensures c.in_err-width.ensures.none)

pub returns-in_err-precision-clause-none : goal.returns-in_err-precision-clause-none
returns-in_err-precision-clause-none c =
    let parts = c.split_parts-parts.result in
    none_of c.from_residual-in_err-precision.result (no_precision c.args.bytes.now parts.marks.now parts.digits.now parts.point.now
    parts.modifier.now parts.rest.now c.split_parts-parts.ensures c.in_err-precision.ensures.none)

pub returns-in_err-piece-clause-none : goal.returns-in_err-piece-clause-none
returns-in_err-piece-clause-none c =
    let parts = c.split_parts-parts.result in
    none_of c.from_residual-in_err-piece.result (no_piece c.args.bytes.now parts.marks.now parts.digits.now parts.point.now
    parts.modifier.now parts.rest.now c.in_ok-letter.rest.now c.in_ok-letter.letter c.split_parts-parts.ensures c.in_ok-letter.ensures
    c.in_err-piece.ensures.none)

pub returns-then-is_allowed-clause-some : goal.returns-then-is_allowed-clause-some
returns-then-is_allowed-clause-some c =
    let parts = c.split_parts-parts.result in
    converts c.args.bytes.now parts.marks.now parts.digits.now parts.point.now parts.modifier.now parts.rest.now c.in_ok-letter.rest.now
    c.in_ok-letter.letter c.in_ok-width.width c.flags_in.result c.in_ok-precision.precision c.in_ok-piece.piece
    c.split_parts-parts.ensures c.in_ok-letter.ensures c.flags_in.ensures c.in_ok-width.ensures.some c.in_ok-precision.ensures.some
    c.in_ok-piece.ensures.some (c.if-is_allowed.ensures.0 refl)

pub returns-clause-none : goal.returns-clause-none
returns-clause-none c =
    let parts = c.split_parts-parts.result in
    not_allowed c.args.bytes.now parts.marks.now parts.digits.now parts.point.now parts.modifier.now parts.rest.now c.in_ok-letter.rest.now
    c.in_ok-letter.letter c.in_ok-width.width c.flags_in.result c.in_ok-precision.precision c.in_ok-piece.piece
    c.split_parts-parts.ensures c.in_ok-letter.ensures c.flags_in.ensures c.in_ok-width.ensures.some.0 c.in_ok-precision.ensures.some
    c.in_ok-piece.ensures.some (λ allowed. let no = c.if-is_allowed.ensures.1 allowed in absurd (cc no))
