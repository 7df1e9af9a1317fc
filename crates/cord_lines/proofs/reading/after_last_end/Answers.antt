use Rattle.cord_lines.proofs.Common.{ap, sym, ◌∙◌}
use Rattle.cord_lines.proofs.Linings.{begin_of, last_begins}
use Rattle.cord_lines.proofs.reading.after_last_end.Goals as goal

pub returns-in-Some : goal.returns-in-Some
returns-in-Some c =
    sym (last_begins c.args.place c.args.text.now c.requires ∙ ap begin_of (sym c.rfind_byte.ensures.last ∙ c.in-Some.is))

pub returns-in-None : goal.returns-in-None
returns-in-None c =
    sym (last_begins c.args.place c.args.text.now c.requires ∙ ap begin_of (sym c.rfind_byte.ensures.last ∙ c.in-None.is))
