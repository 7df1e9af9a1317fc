use Rattle.std.proofs.Common.{◌≡◌, ◌∷◌, ◌+◌, [], length, drop, arith, ap, Err, List, ℕ}
use Rattle.std.proofs.lemmas.List.{drop_more, drop_all}
use Rattle.std.specs.List.{concat}
use Rattle.cord_io.specs.declared.CordError.{CordError}
use Rattle.cord_io.specs.declared.CordError.TheVariants.{TooLong}
use Rattle.cord.proofs.Results.{handed_on}
use Rattle.cord.proofs.Catting.{IsCatting, catting_start, catting_step, catting_too_long, catting_end}
use Rattle.cord.proofs.text.Text.catn.Goals as goal

pub loop-text-init : goal.loop-text-init
loop-text-init c = catting_start c.args.texts.now c.empty-all.result c.empty-all.ensures

pub returns-in_err-all-clause-too_long : goal.returns-in_err-all-clause-too_long
returns-in_err-all-clause-too_long c = handed_on _ TooLong c.in_err-all.field-0.0 c.from_residual.result c.from_residual.ensures.1 (λ h.
    let e : drop c.loop-text.text-index c.args.texts.now ≡ c.text-item.result ∷ drop (c.loop-text.text-index + 1) c.args.texts.now =
    rw c.text-item.is (drop_more c.args.texts.now c.loop-text.text-index c.text-item.result (omega arith)) in
    let i : IsCatting c.args.texts.now (c.text-item.result ∷ drop (c.loop-text.text-index + 1) c.args.texts.now) c.loop-text.all =
    rw (← e) c.loop-text.invariant in
    catting_too_long c.args.texts.now c.text-item.result (drop (c.loop-text.text-index + 1) c.args.texts.now) c.loop-text.all i
    (c.in_err-all.ensures.too_long (ap (λ (y : CordError). Err y) h)))

pub loop-text-preserved : goal.loop-text-preserved
loop-text-preserved c =
    let e : drop c.loop-text.text-index c.args.texts.now ≡ c.text-item.result ∷ drop (c.loop-text.text-index + 1) c.args.texts.now =
    rw c.text-item.is (drop_more c.args.texts.now c.loop-text.text-index c.text-item.result (omega arith)) in
    let i : IsCatting c.args.texts.now (c.text-item.result ∷ drop (c.loop-text.text-index + 1) c.args.texts.now) c.loop-text.all =
    rw (← e) c.loop-text.invariant in
    catting_step c.args.texts.now c.text-item.result (drop (c.loop-text.text-index + 1) c.args.texts.now) c.loop-text.all c.in_ok-all.all i
    c.in_ok-all.ensures.text c.in_ok-all.ensures.within_limit

pub returns-clause-text : goal.returns-clause-text
returns-clause-text c =
    let e : drop c.loop-text.text-index c.args.texts.now ≡ [] = drop_all c.loop-text.text-index c.args.texts.now (omega arith) in
    let i : IsCatting c.args.texts.now [] c.loop-text.all = rw (← e) c.loop-text.invariant in
    catting_end c.args.texts.now c.loop-text.all i

pub returns-clause-within_limit : goal.returns-clause-within_limit
returns-clause-within_limit c =
    let e : drop c.loop-text.text-index c.args.texts.now ≡ [] = drop_all c.loop-text.text-index c.args.texts.now (omega arith) in
    let i : IsCatting c.args.texts.now [] c.loop-text.all = rw (← e) c.loop-text.invariant in
    let same : length c.loop-text.all ≡ length (concat c.args.texts.now) =
    ap (λ (x : List ℕ). length x) (catting_end c.args.texts.now c.loop-text.all i) in
    omega (arith, same, i.short)
