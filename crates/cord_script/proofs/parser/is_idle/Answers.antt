use Rattle.cord_script.proofs.Common.{◌∙◌, sym}
use Rattle.cord_script.proofs.Lines.{is_note}
use Rattle.cord_script.proofs.parser.is_idle.Goals as goal

pub returns-in-Some : goal.returns-in-Some
returns-in-Some c = is_note c.args.line.now c.in-Some.field-0-1.now c.blanks.result c.in-Some.first
    (sym c.tail.ensures ∙ c.in-Some.ensures) c.blanks.ensures.blank c.blanks.ensures.stops
