use Rattle.std.proofs.Common.{ap}
use Rattle.cord.specs.Prints.{piece_argument}
use Rattle.cord.proofs.Printing.{text_made}
use Rattle.cord.proofs.print.cord_of.Goals as goal

pub returns-in_ok-cord-in-Text : goal.returns-in_ok-cord-in-Text
returns-in_ok-cord-in-Text c =
    let made = c.in_ok-cord-in-Text in
    text_made c.args.arg.now c.in-Text.text.now c.as_cord.result.now made.cord
    (ap piece_argument c.in-Text.is) c.as_cord.ensures.text (rw made.ensures.made at c.share.ensures.same)
