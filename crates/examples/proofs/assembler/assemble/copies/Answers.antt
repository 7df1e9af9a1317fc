use Rattle.std.proofs.Common.{refl}
use Rattle.examples.proofs.assembler.assemble.copies.Goals as goal

pub returns : goal.returns
returns g c = c.in_ok-text.ensures.means (g.S.Source.lengths c.args.src.now) (λ t. t c.args.id.0) _ c.in_ok-file.ensures (λ t. refl)
