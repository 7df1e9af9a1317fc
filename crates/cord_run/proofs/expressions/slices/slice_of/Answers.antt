use Rattle.cord_run.proofs.Common.{Ok, ℤ, IfSome, of_z, to_z, w64, sym, ap, subst, ◌∙◌, rules, IfSome_then, MAX_LEN, part_of, expr_view}
use Rattle.cord_run.proofs.Common.{view-Name, operand_in, IsTextIn, ◌≡◌}
use Rattle.cord_plan.specs.Exprs as plain
use Rattle.cord_run.proofs.Numbers.{handed}
use Rattle.cord_run.proofs.ShortTexts.{name_is, sub_is}
use Rattle.cord_run.proofs.expressions.slices.slice_of.Goals as goal

pub returns-in-Name : goal.returns-in-Name
returns-in-Name c =
    let entries = c.args.store.now.entries.items in
    let x = c.in-Name.name in
    let view : expr_view c.args.expression.now ≡ plain.name x = ap expr_view c.in-Name.is ∙ view-Name x in
    subst (λ (e : plain.Expr). IfSome c.named_slice.result (λ slice. IsTextIn entries e slice.now)) (sym view)
    (IfSome_then c.named_slice.result c.named_slice.ensures (λ slice is. name_is entries x slice.now is))

pub returns-in_ok-whole-in_default : goal.returns-in_ok-whole-in_default
returns-in_ok-whole-in_default c =
    let entries = c.args.store.now.entries.items in
    let part = c.in_ok-name-in_default in
    let n = part.count.now in
    let whole = c.in_ok-whole-in_default.whole.now in
    let start = handed c.value_of.result (search rules) c.value_of.ensures in
    let count = handed c.value_of-in_default.result (search rules) c.value_of-in_default.ensures in
    subst (λ (e : plain.Expr). IfSome c.range_of.result (λ range. IsTextIn entries e range.now)) (sym part.ensures)
    (IfSome_then c.range_of.result c.range_of.ensures
    (λ range is. sub_is entries part.name.now whole c.in_ok-whole-in_default.ensures part.start.now n range.now
    (subst (λ (z : ℤ). part_of MAX_LEN whole z (operand_in entries n) ≡ Ok range.now) start
    (subst (λ (z : ℤ). part_of MAX_LEN whole (to_z w64 (of_z w64 c.value_of.result)) z ≡ Ok range.now) count is))))
