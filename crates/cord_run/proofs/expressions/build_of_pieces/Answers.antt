use Rattle.cord_run.proofs.Common.{List, subst, Option, Node, PartsFrom, all_parts, parts_of, IsAllOf, expr_view}
use Rattle.cord_run.proofs.Parts.{whole_built}
use Rattle.cord_run.proofs.expressions.build_of_pieces.Goals as goal

pub returns-in-Ok : goal.returns-in-Ok
returns-in-Ok c = record {
  built = whole_built c.args.store.now.entries.items (expr_view c.args.expression.now) c.in_ok-pieces.pieces.items c.in-Ok.cord
      c.in_ok-pieces.ensures.whole.0 c.in_ok-pieces.ensures.whole.1
      (subst (λ (ps : List (Option Node)). PartsFrom (all_parts ps) (parts_of c.in-Ok.cord)) c.deref.ensures.value c.in-Ok.ensures.parts)
      (subst (λ (ps : List (Option Node)). IsAllOf ps c.in-Ok.cord) c.deref.ensures.value c.in-Ok.ensures.over) c.in-Ok.ensures.sound;
  refused = tt;
}
