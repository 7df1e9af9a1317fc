use Rattle.std.proofs.Common.{rules, ◌∙◌, ◌∷◌, refl, ap}
use Rattle.cord_printf.specs.declared.pieces.Piece.TheVariants.{Text}
use Rattle.cord_printf.proofs.Whole.{converted_piece}
use Rattle.cord_printf.proofs.format.past_piece.Goals as goal

pub returns-in-Some-eq37-default-clause-piece : goal.returns-in-Some-eq37-default-clause-piece
returns-in-Some-eq37-default-clause-piece c =
    let h = converted_piece c.in-Some-eq37-default.inner.now c.args.bytes.now c.in_ok-after.after.now c.in_ok-after.field-0-0
    (c.in-Some-eq37-default.ensures ∙ ap (λ x. x ∷ c.in-Some-eq37-default.inner.now) c.in-Some-eq37-default.field-0-0-test)
    c.in_ok-after.ensures.some in
    (c.in_ok-after.field-0-0, h.0, h.1, h.2)

pub returns-clause-piece : goal.returns-clause-piece
returns-clause-piece c = (
  Text c.span.result.0.now,
  c.span.result.0.now,
  c.span.ensures.whole,
  (refl, search rules, c.span.ensures.all, c.span.ensures.ends),
)
