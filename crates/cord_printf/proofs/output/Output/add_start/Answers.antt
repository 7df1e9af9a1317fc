use Rattle.std.proofs.lemmas.Result.{IfOk-weaker}
use Rattle.cord_core.specs.Cord.{parts_of}
use Rattle.cord_printf.proofs.Owned.{start_from}
use Rattle.cord_printf.proofs.output.Output.add_start.Goals as goal

pub returns-in-Ok-clause-made : goal.returns-in-Ok-clause-made
returns-in-Ok-clause-made c = IfOk-weaker _ _ _ (λ _ m. start_from c.args.self.now.parts (parts_of c.args.cord.now)
    (parts_of c.in-Ok.start) c.add_cord-in-Ok.new.self.parts c.in-Ok.ensures.parts_from m) c.add_cord-in-Ok.ensures.made
