use Rattle.std.proofs.Common.{rules}
use Rattle.cord_c.proofs.referent.Referent.text_or.Goals as goal

pub returns-in-Text : goal.returns-in-Text
returns-in-Text c = search rules
