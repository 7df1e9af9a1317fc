use Rattle.std.specs.Prelude.{◌+◌, ◌∷◌, ◌++◌}
use Rattle.cord_plan.proofs.Common.{[], map, Option, sym, subst, IfSome_then, Expr, expr_of, expr_with, choice_view, HasFacts}
use Rattle.cord_plan.proofs.ExpressionFacts.{facts_more, known_with, last_in}
use Rattle.cord_plan.proofs.planner.expression_facts.ExpressionFacts.note.Goals as goal

pub returns : goal.returns
returns c = λ s table known from.
    let b = c.args.line.now.place in
    let o = expr_with c.args.line.now.statement.now (map expr_of (map choice_view c.args.choices.now)) in
    known_with s b table o c.put.new.self known.size (c.put.ensures s (b + 1) (table ++ o ∷ [])
    (facts_more s b table o c.args.self.now known.facts)
    (IfSome_then c.of_line-facts.result (c.of_line-facts.ensures s table known.facts from)
    (λ f has. subst (λ (p : Option Expr). HasFacts s (b + 1) p f) (sym (last_in table o b known.size)) has)))
