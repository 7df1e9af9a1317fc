use Rattle.cord_printf.proofs.Layouts.{padding_shown}
use Rattle.cord_core.specs.Cord.{text}
use Rattle.cord_printf.specs.PieceText.{cut}
use Rattle.cord_printf.proofs.piece_text.show_start.Goals as goal

pub returns-clause-text : goal.returns-clause-text
returns-clause-text c = rw (c.cut_len-len.ensures.bytes) (padding_shown c.args.left c.args.width c.cut_len-len.result c.padding.result
    (cut c.args.precision (text c.args.cord.now)) c.cut_len-len.ensures.length c.padding.ensures.before c.padding.ensures.after
    c.padding.ensures.bare)
