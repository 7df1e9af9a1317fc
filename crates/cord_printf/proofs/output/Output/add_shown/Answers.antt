use Rattle.std.proofs.Common.{refl}
use Rattle.std.proofs.lemmas.Result.{IfOk-equal, IfOk-weaker}
use Rattle.cord_printf.specs.inner.PieceLayouts.{body_text}
use Rattle.cord_printf.proofs.Layouts.{shown_added}
use Rattle.cord_printf.proofs.Owned.{shown_from}
use Rattle.cord_printf.proofs.output.Output.add_shown.Goals as goal

pub returns-clause-text : goal.returns-clause-text
returns-clause-text c = IfOk-equal _ _ _ _ c.add_run.ensures.text
    (shown_added c.args.shown.now.layout (body_text c.args.shown.now.body) c.args.self.now.text c.add_prefix.new.self.text
    c.add_body.new.self.text _ c.in_ok-add_prefix.ensures.text c.in_ok-add_body.ensures.text refl)

pub returns-clause-made : goal.returns-clause-made
returns-clause-made c =
    IfOk-weaker _ _ _ (λ _ m. shown_from c.args.shown.now c.args.self.now.parts c.add_prefix.new.self.parts c.add_body.new.self.parts
    c.add_run.new.self.parts c.in_ok-add_prefix.ensures.made c.in_ok-add_body.ensures.made m) c.add_run.ensures.made
