use Rattle.std.proofs.Common.{arith, refl}
use Rattle.std.proofs.lemmas.Grind.{common_steps}
use Rattle.std.proofs.lemmas.Result.{err_from_is_err_and}
use Rattle.cord_printf.proofs.Whole.{more_read, bad_at}
use Rattle.cord_printf.proofs.format.Format.parse.Goals as goal

pub returns-in_err-piece-clause-refused : goal.returns-in_err-piece-clause-refused
returns-in_err-piece-clause-refused c =
    let p = err_from_is_err_and c.from_residual.result c.from_residual.ensures.1 in
    rw (p.1, p.2) (bad_at c.args.bytes.now c.pieces.rest.now c.pieces.pieces.items _ c.in_err-piece.field-0.0 c.pieces.invariant.split
    c.pieces.invariant.read refl c.in_err-piece.ensures.refused)

pub pieces-preserved : goal.pieces-preserved
pieces-preserved c = more_read c.args.bytes.now c.pieces.rest.now c.pieces.pieces.items c.push.new.self.items c.in_ok-piece.piece
    c.in_ok-piece.after.now c.pieces.invariant.split c.pieces.invariant.read (grind (arith, common_steps)) c.in_ok-piece.ensures.piece
