use Rattle.cord_printf.proofs.Owned.{same_from}
use Rattle.cord_printf.proofs.output.Output.add_run.Goals as goal

pub returns-else-count-gt0-clause-made : goal.returns-else-count-gt0-clause-made
returns-else-count-gt0-clause-made c = same_from c.args.count c.args.self.now.parts
