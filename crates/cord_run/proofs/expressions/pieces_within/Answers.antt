use Rattle.cord_run.proofs.Common.{◌∙◌, ap, sym, subst, List, Ok, ℕ, Option, Node, expr_view, InTurn, origins}
use Rattle.cord_run.proofs.MemberRanges.{none_in_turn}
use Rattle.cord_run.proofs.Parts.{whole_in_turn, whole_nothing, whole_range}
use Rattle.cord_run.proofs.expressions.pieces_within.Goals as goal

pub returns-then-len-eq0 : goal.returns-then-len-eq0
returns-then-len-eq0 c =
    let entries = c.args.store.now.entries.items in
    let e = expr_view c.args.expression.now in (
      whole_nothing entries e c.new-pieces.result.items c.new-pieces.ensures.items
          (c.requires ∙ ap (λ (n : ℕ). Ok n) c.if-len-eq0.true),
      subst (λ (pieces : List (Option Node)). InTurn entries (origins e) pieces) (sym c.new-pieces.ensures.items)
          (none_in_turn entries (origins e)),
    )

pub returns : goal.returns
returns c =
    let entries = c.args.store.now.entries.items in
    let e = expr_view c.args.expression.now in
    let added = c.in_ok-add_range.ensures in (
      whole_range entries e c.args.len c.new-pieces.result.items c.add_range.new.pieces.items c.new-pieces.ensures.items c.requires added,
      whole_in_turn entries e c.new-pieces.result.items c.add_range.new.pieces.items c.new-pieces.ensures.items
          added.added.in_turn,
    )
