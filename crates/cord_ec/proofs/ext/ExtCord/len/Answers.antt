use Rattle.std.proofs.Common.{◌∙◌, sym, rules}
use Rattle.std.proofs.lemmas.List.{length-map}
use Rattle.cord_node.specs.Tables.{byte_at}
use Rattle.cord_ec.proofs.ext.ExtCord.len.Goals as goal

pub returns-clause-value : goal.returns-clause-value
returns-clause-value c = search rules

pub returns-clause-over : goal.returns-clause-over
returns-clause-over c = λ t. returns-clause-value c ∙ sym (length-map c.args.self.now.text (byte_at t))
