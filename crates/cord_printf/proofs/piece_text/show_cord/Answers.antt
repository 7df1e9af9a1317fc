use Rattle.cord_node.proofs.PartsFromLemmas.{PartsFrom_same}
use Rattle.cord_core.specs.Cord.{parts_of}
use Rattle.cord_printf.specs.inner.PieceLayouts.{body_parts}
use Rattle.cord_printf.proofs.piece_text.show_cord.Goals as goal

pub returns-in-Cord-clause-parts_from : goal.returns-in-Cord-clause-parts_from
returns-in-Cord-clause-parts_from c = PartsFrom_same (parts_of c.args.cord.now) (body_parts c.show_start.result.body)
    c.show_start.ensures.parts
