use Rattle.std.proofs.Common.{◌∙◌, ℕ, ◌++◌, ap, map, subst, arith}
use Rattle.std.proofs.lemmas.Result.{IfOk-equal, IfOk-weaker}
use Rattle.cord_node.specs.Tree.{known}
use Rattle.cord_printf.specs.Own.{IsPrintedFrom}
use Rattle.cord_printf.proofs.Layouts.{take-run}
use Rattle.cord_printf.proofs.Owned.{each_byte, run_from}
use Rattle.cord_printf.proofs.output.Output.add_copies.Goals as goal

pub returns-then-count-le-SHORT_RUN-clause-text : goal.returns-then-count-le-SHORT_RUN-clause-text
returns-then-count-le-SHORT_RUN-clause-text c = IfOk-equal _ _ _ _ c.add_bytes.ensures.text
    (ap (λ x. c.args.self.now.text ++ x) (ap (map known) c.split_at.ensures.front ∙ take-run c.args.count 64 c.args.byte (omega arith)))

pub returns-then-count-le-SHORT_RUN-clause-made : goal.returns-then-count-le-SHORT_RUN-clause-made
returns-then-count-le-SHORT_RUN-clause-made c = IfOk-weaker _ _ _
    (λ _ m. each_byte c.args.count c.split_at.result.0.now c.args.self.now.parts c.add_bytes.new.self.parts
    (omega (arith, c.split_at.ensures.front_len)) m) c.add_bytes.ensures.made

pub returns-in-Ok-clause-made : goal.returns-in-Ok-clause-made
returns-in-Ok-clause-made c =
    IfOk-weaker _ _ _ (λ _ m. subst (λ (n : ℕ). IsPrintedFrom n c.args.self.now.parts c.add_cord.new.self.parts) c.from.ensures
    (run_from c.args.byte c.from.result c.in-Ok.run' c.args.self.now.parts c.add_cord.new.self.parts c.in-Ok.ensures.form
    (omega (arith, c.from.ensures, c.requires.some)) m)) c.add_cord.ensures.made
