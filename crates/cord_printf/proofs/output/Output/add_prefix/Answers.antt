use Rattle.std.proofs.Common.{refl}
use Rattle.std.proofs.lemmas.Result.{IfOk-equal, IfOk-weaker}
use Rattle.cord_printf.proofs.Layouts.{prefix_added}
use Rattle.cord_printf.proofs.Owned.{prefix_from}
use Rattle.cord_printf.proofs.output.Output.add_prefix.Goals as goal

pub returns-clause-text : goal.returns-clause-text
returns-clause-text c = IfOk-equal _ _ _ _ c.add_run-2.ensures.text
    (prefix_added c.args.layout c.args.self.now.text c.add_run.new.self.text c.add_sign.new.self.text _ c.in_ok-add_run.ensures.text
    c.in_ok-add_sign.ensures.text refl)

pub returns-clause-made : goal.returns-clause-made
returns-clause-made c =
    IfOk-weaker _ _ _ (λ _ m. prefix_from c.args.layout c.args.self.now.parts c.add_run.new.self.parts c.add_sign.new.self.parts
    c.add_run-2.new.self.parts c.in_ok-add_run.ensures.made c.in_ok-add_sign.ensures.made m) c.add_run-2.ensures.made
