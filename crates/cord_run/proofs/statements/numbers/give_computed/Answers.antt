use Rattle.cord_run.proofs.Common.{ℤ, Result, refl, subst, rules, IfOk, FaultKind, HasNumber, FindsOver, or_stop}
use Rattle.cord_run.specs.declared.stops.Stop.TheVariants as stops
use Rattle.cord_run.proofs.Numbers.{kept_giving, none_found, number_counted, handed}
use Rattle.cord_run.proofs.statements.numbers.give_computed.Goals as goal

pub returns-in-Ok-clause-means : goal.returns-in-Ok-clause-means
returns-in-Ok-clause-means c = λ t l found named.
    let z : ℤ = c.in-Ok.number in
    let old = c.args.store.now.entries.items in
    let new = c.give_number.new.store.entries.items in
    let target = c.args.target.now in
    let has = subst (λ (v : ℤ). IfOk c.give_number.result (λ _. HasNumber target v old new)) (handed z (search rules) refl)
    c.give_number.ensures.has in
    kept_giving l target z old new t c.give_number.result
    (subst (λ (r : Result ℤ FaultKind). FindsOver t l old (or_stop r)) c.in-Ok.is found) named has c.give_number.ensures.refused

pub returns-in-Ok-clause-counts : goal.returns-in-Ok-clause-counts
returns-in-Ok-clause-counts c = λ n. number_counted n n c.in-Ok.number c.give_number.result refl c.give_number.ensures.refused

pub returns-in-Err-clause-means : goal.returns-in-Err-clause-means
returns-in-Err-clause-means c = λ t l found named.
    let old = c.args.store.now.entries.items in
    none_found l old old t (stops.Fault c.in-Err.kind)
    (subst (λ (r : Result ℤ FaultKind). FindsOver t l old (or_stop r)) c.in-Err.is found)
