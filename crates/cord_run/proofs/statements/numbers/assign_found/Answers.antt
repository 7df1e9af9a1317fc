use Rattle.cord_run.proofs.Common.{ℤ, Some, None, Result, refl, subst, rules, IfOk, Stop, HasNumber, CountsFinding, FindsOver}
use Rattle.cord_run.proofs.Common.{CountsReadStop, MeansOver, handed_on, ◌≡◌}
use Rattle.cord_syntax.specs.Targets.{target_of}
use Rattle.cord_run.proofs.Numbers.{assigns_none, kept_giving, none_counted, none_found, number_counted, handed}
use Rattle.cord_run.proofs.statements.numbers.assign_found.Goals as goal

pub returns-in_err-number-clause-means : goal.returns-in_err-number-clause-means
returns-in_err-number-clause-means c = λ t found assigns.
    let l = c.args.statement.now in
    let old = c.args.store.now.entries.items in
    subst (λ (r : Result (Unit {0}) Stop). MeansOver t l old old r)
    (handed_on c.in_err-number.field-0.0 c.from_residual.result c.from_residual.ensures.1)
    (none_found l old old t c.in_err-number.field-0.0 (subst (λ (r : Result ℤ Stop). FindsOver t l old r) c.in_err-number.was found))

pub returns-in_err-number-clause-counts : goal.returns-in_err-number-clause-counts
returns-in_err-number-clause-counts c = λ before after counts.
    subst (λ (r : Result (Unit {0}) Stop). CountsReadStop before after r)
    (handed_on c.in_err-number.field-0.0 c.from_residual.result c.from_residual.ensures.1)
    (none_counted before after c.in_err-number.field-0.0
    (subst (λ (r : Result ℤ Stop). CountsFinding before after r) c.in_err-number.was counts))

pub returns-in-None-clause-means : goal.returns-in-None-clause-means
returns-in-None-clause-means c = λ t found assigns.
    let none : target_of c.args.statement.now ≡ None = search rules in
    absurd (assigns_none (target_of c.args.statement.now) none assigns)

pub returns-in-None-clause-counts : goal.returns-in-None-clause-counts
returns-in-None-clause-counts c = λ before after counts.
    subst (λ (r : Result ℤ Stop). CountsFinding before after r) c.in_ok-number.was counts

pub returns-in-Some-clause-means : goal.returns-in-Some-clause-means
returns-in-Some-clause-means c = λ t found assigns.
    let l = c.args.statement.now in
    let z : ℤ = c.in_ok-number.number in
    let old = c.args.store.now.entries.items in
    let new = c.give_number.new.store.entries.items in
    let target = c.in-Some.target.now in
    let named : target_of l ≡ Some target = search rules in
    let has = subst (λ (v : ℤ). IfOk c.give_number.result (λ _. HasNumber target v old new)) (handed z (search rules) refl)
    c.give_number.ensures.has in
    kept_giving l target z old new t c.give_number.result
    (subst (λ (r : Result ℤ Stop). FindsOver t l old r) c.in_ok-number.was found) named has
    c.give_number.ensures.refused

pub returns-in-Some-clause-counts : goal.returns-in-Some-clause-counts
returns-in-Some-clause-counts c = λ before after counts.
    number_counted before after c.in_ok-number.number c.give_number.result
    (subst (λ (r : Result ℤ Stop). CountsFinding before after r) c.in_ok-number.was counts) c.give_number.ensures.refused
