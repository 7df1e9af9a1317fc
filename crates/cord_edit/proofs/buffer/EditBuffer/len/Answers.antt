use Rattle.std.proofs.Common.{◌∙◌, sym, arith}
use Rattle.std.proofs.lemmas.Grind.{common_steps}
use Rattle.std.proofs.lemmas.List.{length-map}
use Rattle.cord_node.specs.Tables.{byte_at}
use Rattle.cord_edit.proofs.buffer.EditBuffer.len.Goals as goal

pub returns-clause-value : goal.returns-clause-value
returns-clause-value c = grind (arith, common_steps)

pub returns-clause-over : goal.returns-clause-over
returns-clause-over c = λ t. returns-clause-value c ∙ sym (length-map c.args.self.now.text (byte_at t))
