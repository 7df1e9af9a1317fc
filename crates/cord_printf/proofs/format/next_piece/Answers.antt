use Rattle.std.proofs.Common.{◌∙◌, ◌∷◌, ap}
use Rattle.cord_printf.proofs.Whole.{converted_piece}
use Rattle.cord_printf.proofs.format.next_piece.Goals as goal

pub returns-in-Some-eq37-default-clause-piece : goal.returns-in-Some-eq37-default-clause-piece
returns-in-Some-eq37-default-clause-piece c = converted_piece c.in-Some-eq37-default.inner.now c.args.bytes.now c.in-Some.after.now
    c.in-Some.piece (c.in-Some-eq37-default.ensures ∙ ap (λ x. x ∷ c.in-Some-eq37-default.inner.now) c.in-Some-eq37-default.field-0-0-test)
    c.in-Some.ensures.some
