use Rattle.cord_run.proofs.Common.{ℤ, Ok, refl, sym, subst, ap, ◌∙◌, to_z, of_z, w64, rules, number_value, statement_of, Computation, Add}
use Rattle.cord_run.proofs.Common.{Len, Sub, plain_of, in_i64, MeansOver, ◌≡◌, ◌+ℤ◌, ◌-ℤ◌}
use Rattle.cord_syntax.specs.declared.families.Family.TheVariants as families
use Rattle.cord_run.proofs.Lengths.{operand_value}
use Rattle.cord_run.proofs.Numbers.{len_finds, sum_finds, handed}
use Rattle.cord_run.proofs.statements.numbers.serve_computation.Goals as goal

pub returns-in-Len-clause-means : goal.returns-in-Len-clause-means
returns-in-Len-clause-means c = λ t over line.
    let old = c.args.store.now.entries.items in
    let new = c.give_computed.new.store.entries.items in
    let z : ℤ = to_z w64 (of_z w64 c.reported_length-len.result) in
    let reported = handed c.reported_length-len.result (search rules) c.reported_length-len.ensures in
    subst (λ (f : Computation). MeansOver t (statement_of line (families.Computation f)) old new c.give_computed.result) (sym c.in-Len.is)
    (c.give_computed.ensures.means t (Len line c.in-Len.target.now c.in-Len.operand.now)
    (len_finds t old line c.in-Len.target.now (Ok z) over c.in-Len.operand.now (ap (λ v. Ok v) (sym reported))) refl)

pub returns-in-Add-clause-means : goal.returns-in-Add-clause-means
returns-in-Add-clause-means c = λ t over line.
    let old = c.args.store.now.entries.items in
    let new = c.give_computed-in-Add.new.store.entries.items in
    let target = c.in-Add.target.now in
    let left = c.in-Add.left.now in
    let right = c.in-Add.right.now in
    let left_is = handed c.value_of.result (search rules) (c.value_of.ensures ∙ operand_value t old left) in
    let right_is = handed c.value_of-in-Add.result (search rules) (c.value_of-in-Add.ensures ∙ operand_value t old right) in
    let z : ℤ = number_value (plain_of t old) left +ℤ number_value (plain_of t old) right in
    let number : c.sum-sum.result ≡ in_i64 z = c.sum-sum.ensures ∙ (λ i. in_i64 (left_is i +ℤ right_is i)) in
    subst (λ (f : Computation). MeansOver t (statement_of line (families.Computation f)) old new c.give_computed-in-Add.result)
    (sym c.in-Add.is)
    (c.give_computed-in-Add.ensures.means t (Add line target left right)
    (sum_finds t old (Add line target left right) target z c.sum-sum.result (λ file_system. refl) refl number) refl)

pub returns-in-Sub-clause-means : goal.returns-in-Sub-clause-means
returns-in-Sub-clause-means c = λ t over line.
    let old = c.args.store.now.entries.items in
    let new = c.give_computed-in-Sub.new.store.entries.items in
    let target = c.in-Sub.target.now in
    let left = c.in-Sub.left.now in
    let right = c.in-Sub.right.now in
    let left_is = handed c.value_of-in-Sub.result (search rules) (c.value_of-in-Sub.ensures ∙ operand_value t old left) in
    let right_is = handed c.value_of-in-Sub-2.result (search rules) (c.value_of-in-Sub-2.ensures ∙ operand_value t old right) in
    let z : ℤ = number_value (plain_of t old) left -ℤ number_value (plain_of t old) right in
    let number : c.difference-difference.result ≡ in_i64 z = c.difference-difference.ensures ∙ (λ i. in_i64 (left_is i -ℤ right_is i)) in
    subst (λ (f : Computation). MeansOver t (statement_of line (families.Computation f)) old new c.give_computed-in-Sub.result)
    (sym c.in-Sub.is)
    (c.give_computed-in-Sub.ensures.means t (Sub line target left right)
    (sum_finds t old (Sub line target left right) target z c.difference-difference.result (λ file_system. refl) refl number) refl)
