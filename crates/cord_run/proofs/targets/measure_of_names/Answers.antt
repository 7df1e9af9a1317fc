use Rattle.cord_run.proofs.Common.{ap, ◌∙◌, rules, expr_view, made_view}
use Rattle.cord_run.proofs.Definitions.{balanced_reported, joined_reported, joined_unreported, printed_as, printed_reported}
use Rattle.cord_run.proofs.Definitions.{printed_unreported, start_measured}
use Rattle.cord_run.proofs.Numbers.{handed}
use Rattle.cord_run.proofs.targets.measure_of_names.Goals as goal

pub returns-in-Joined-clause-reported : goal.returns-in-Joined-clause-reported
returns-in-Joined-clause-reported c =
    joined_reported c.args.store.now.entries.items (made_view c.args.made.now) (expr_view c.in-Joined.expression)
    (ap made_view c.in-Joined.is) c.joined_length.result c.joined_length.ensures c.length_or_stop.result c.length_or_stop.ensures.stops

pub returns-in-Joined-clause-refused : goal.returns-in-Joined-clause-refused
returns-in-Joined-clause-refused c = joined_unreported c.args.store.now.entries.items (made_view c.args.made.now)
    (expr_view c.in-Joined.expression) (ap made_view c.in-Joined.is) c.joined_length.result c.joined_length.ensures
    c.length_or_stop.result c.length_or_stop.ensures.stops

pub returns-in-OfFunction-clause-reported : goal.returns-in-OfFunction-clause-reported
returns-in-OfFunction-clause-reported c =
    start_measured c.args.store.now.entries.items (made_view c.args.made.now) c.in-OfFunction.field-0 c.in-OfFunction.count
    (ap made_view c.in-OfFunction.is) _ (handed c.value_of.result (search rules) c.value_of.ensures) c.start_length.result c.start_length.ensures
    c.length_or_stop-in-OfFunction.result c.length_or_stop-in-OfFunction.ensures.stops

pub returns-in-Balanced-clause-reported : goal.returns-in-Balanced-clause-reported
returns-in-Balanced-clause-reported c =
    balanced_reported c.args.store.now.entries.items (made_view c.args.made.now) c.in-Balanced.name
    (ap made_view c.in-Balanced.is)
    c.length_of.result c.length_of.ensures c.as_length-in-Balanced.result c.as_length-in-Balanced.ensures
    c.length_or_stop-in-Balanced.result c.length_or_stop-in-Balanced.ensures.stops

pub returns-in-Printed-clause-reported : goal.returns-in-Printed-clause-reported
returns-in-Printed-clause-reported c =
    printed_reported c.args.store.now.entries.items (made_view c.args.made.now) c.in-Printed.field-0 c.as_ref.result.now
    c.as_slice-in-Printed.result.now
    (printed_as (ap made_view c.in-Printed.is) c.as_ref.ensures (c.as_slice-in-Printed.ensures ∙ c.as_ref-in-Printed.ensures))
    c.print_length.result c.print_length.ensures.reported

pub returns-in-Printed-clause-refused : goal.returns-in-Printed-clause-refused
returns-in-Printed-clause-refused c =
    printed_unreported c.args.store.now.entries.items (made_view c.args.made.now) c.in-Printed.field-0 c.as_ref.result.now
    c.as_slice-in-Printed.result.now
    (printed_as (ap made_view c.in-Printed.is) c.as_ref.ensures (c.as_slice-in-Printed.ensures ∙ c.as_ref-in-Printed.ensures))
    c.print_length.result c.print_length.ensures.refused

-- a must-fail edit breaks it
pub returns-in-Joined-clause-unbuilt : goal.returns-in-Joined-clause-unbuilt
returns-in-Joined-clause-unbuilt c = search rules
