use Rattle.cord_run.proofs.Common.{List, ℕ, ap, sym, ◌∙◌, rules, expr_view, made_view}
use Rattle.cord_plan.specs.Planned as plan
use Rattle.cord_run.proofs.Definitions.{balanced_made, extensible_made, joined_made, joined_unmade, literal_made, printed_as, printed_made}
use Rattle.cord_run.proofs.Definitions.{printed_unmade, start_made}
use Rattle.cord_run.proofs.Numbers.{handed}
use Rattle.cord_run.proofs.targets.make_of_names.Goals as goal

pub returns-in-Joined-clause-built : goal.returns-in-Joined-clause-built
returns-in-Joined-clause-built c = joined_made c.args.store.now.entries.items (made_view c.args.made.now)
    (expr_view c.in-Joined.expression) (ap made_view c.in-Joined.is) c.build.result c.build.ensures.built

pub returns-in-Joined-clause-refused : goal.returns-in-Joined-clause-refused
returns-in-Joined-clause-refused c = joined_unmade c.args.store.now.entries.items (made_view c.args.made.now)
    (expr_view c.in-Joined.expression) (ap made_view c.in-Joined.is) c.build.result c.build.ensures.refused

pub returns-in_ok-literal-in-Literal-clause-built : goal.returns-in_ok-literal-in-Literal-clause-built
returns-in_ok-literal-in-Literal-clause-built c =
    literal_made c.args.store.now.entries.items (made_view c.args.made.now) c.as_slice.result.now
    (ap made_view c.in-Literal.is ∙ ap (λ (text : List ℕ). plan.Literal text) (sym c.as_slice.ensures))
    c.in_ok-literal-in-Literal.field-0 c.in_ok-literal-in-Literal.ensures.made

pub returns-in-OfFunction-clause-built : goal.returns-in-OfFunction-clause-built
returns-in-OfFunction-clause-built c =
    start_made c.args.store.now.entries.items (made_view c.args.made.now) c.in-OfFunction.function c.in-OfFunction.count
    (ap made_view c.in-OfFunction.is) _ (handed c.value_of.result (search rules) c.value_of.ensures) c.start.result c.start.ensures.made

pub returns-in_ok-balanced-in-Balanced-clause-built : goal.returns-in_ok-balanced-in-Balanced-clause-built
returns-in_ok-balanced-in-Balanced-clause-built c =
    balanced_made c.args.store.now.entries.items (made_view c.args.made.now) c.in-Balanced.name
    (ap made_view c.in-Balanced.is)
    c.in_ok-balanced-in-Balanced.field-0 c.in_ok-balanced-in-Balanced.ensures.made

pub returns-in_ok-extended-in-OfExtensible-clause-built : goal.returns-in_ok-extended-in-OfExtensible-clause-built
returns-in_ok-extended-in-OfExtensible-clause-built c =
    extensible_made c.args.store.now.entries.items (made_view c.args.made.now) c.in-OfExtensible.name
    (ap made_view c.in-OfExtensible.is)
    c.in_ok-extended-in-OfExtensible.field-0 c.in_ok-extended-in-OfExtensible.ensures.made

pub returns-in-Printed-clause-built : goal.returns-in-Printed-clause-built
returns-in-Printed-clause-built c =
    printed_made c.args.store.now.entries.items (made_view c.args.made.now) c.in-Printed.field-0 c.as_ref.result.now c.as_slice-in-Printed.result.now
    (printed_as (ap made_view c.in-Printed.is) c.as_ref.ensures (c.as_slice-in-Printed.ensures ∙ c.as_ref-in-Printed.ensures))
    c.print.result c.print.ensures.made

pub returns-in-Printed-clause-refused : goal.returns-in-Printed-clause-refused
returns-in-Printed-clause-refused c =
    printed_unmade c.args.store.now.entries.items (made_view c.args.made.now) c.in-Printed.field-0 c.as_ref.result.now c.as_slice-in-Printed.result.now
    (printed_as (ap made_view c.in-Printed.is) c.as_ref.ensures (c.as_slice-in-Printed.ensures ∙ c.as_ref-in-Printed.ensures))
    c.print.result c.print.ensures.refused
