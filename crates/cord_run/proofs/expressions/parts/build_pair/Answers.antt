use Rattle.cord_run.proofs.Common.{expr_view, stop_of_cord}
use Rattle.cord_run.proofs.Parts.{both, first_unbuilt, pair_built, pair_refused, second_unbuilt, unbuilt}
use Rattle.cord_run.proofs.expressions.parts.build_pair.Goals as goal

pub returns-in_err-prefix : goal.returns-in_err-prefix
returns-in_err-prefix c =
    let entries = c.args.store.now.entries.items in
    let d = expr_view c.args.left.now in
    let e = expr_view c.args.right.now in
    unbuilt entries (both entries d e) c.in_err-prefix.field-0.0 c.from_residual.result c.from_residual.ensures.1
    (first_unbuilt entries d e c.in_err-prefix.field-0.0 c.in_err-prefix.ensures.refused)

pub returns-in_err-suffix : goal.returns-in_err-suffix
returns-in_err-suffix c =
    let entries = c.args.store.now.entries.items in
    let d = expr_view c.args.left.now in
    let e = expr_view c.args.right.now in
    unbuilt entries (both entries d e) c.in_err-suffix.field-0.0 c.from_residual-in_err-suffix.result
    c.from_residual-in_err-suffix.ensures.1
    (second_unbuilt entries d e c.in_ok-prefix.prefix c.in_ok-prefix.ensures.built c.in_err-suffix.field-0.0
    c.in_err-suffix.ensures.refused)

pub returns-in_err-cat : goal.returns-in_err-cat
returns-in_err-cat c =
    let entries = c.args.store.now.entries.items in
    let d = expr_view c.args.left.now in
    let e = expr_view c.args.right.now in
    unbuilt entries (both entries d e) (stop_of_cord c.in_err-cat.field-0.0) c.from_residual-in_err-cat.result
    c.from_residual-in_err-cat.ensures.1
    (pair_refused entries d e c.in_ok-prefix.prefix c.in_ok-suffix.suffix c.in_ok-prefix.ensures.built c.in_ok-suffix.ensures.built
    c.in_err-cat.field-0.0 c.in_err-cat.ensures.refused c.in_err-cat.ensures.too_long)

pub returns : goal.returns
returns c = record {
  built = pair_built c.args.store.now.entries.items (expr_view c.args.left.now) (expr_view c.args.right.now) c.in_ok-prefix.prefix
      c.in_ok-suffix.suffix c.in_ok-prefix.ensures.built c.in_ok-suffix.ensures.built c.in_ok-cat.field-0 c.in_ok-cat.ensures.over
      c.in_ok-cat.ensures.sound c.in_ok-cat.ensures.parts_from c.in_ok-cat.ensures.within_limit;
  refused = tt;
}
