use Rattle.std.proofs.Common.{◌≡◌, ◌∷◌, ◌+◌, [], drop, arith}
use Rattle.std.proofs.lemmas.List.{drop_more, drop_all}
use Rattle.cord_core.proofs.Catting.{IsCatting, catting_start, catting_step, catting_end}
use Rattle.cord_core.proofs.OverLemmas.{all_over}
use Rattle.cord_core.proofs.Cord.catn.Goals as goal

pub loop-cord-init : goal.loop-cord-init
loop-cord-init c = catting_start c.args.cords.now c.empty-all.result c.empty-all.ensures

pub loop-cord-preserved : goal.loop-cord-preserved
loop-cord-preserved c =
    let e : drop c.loop-cord.cord-index c.args.cords.now ≡ c.cord-item.result ∷ drop (c.loop-cord.cord-index + 1) c.args.cords.now =
    rw c.cord-item.is (drop_more c.args.cords.now c.loop-cord.cord-index c.cord-item.result (omega arith)) in
    let i : IsCatting c.args.cords.now (c.cord-item.result ∷ drop (c.loop-cord.cord-index + 1) c.args.cords.now) c.loop-cord.all =
    rw (← e) c.loop-cord.invariant in
    catting_step c.args.cords.now c.cord-item.result (drop (c.loop-cord.cord-index + 1) c.args.cords.now) c.loop-cord.all c.in_ok-all.all i
    c.in_ok-all.ensures.sound c.in_ok-all.ensures.text c.in_ok-all.ensures.len c.in_ok-all.ensures.parts_from

pub returns-clause-over : goal.returns-clause-over
returns-clause-over c =
    let e : drop c.loop-cord.cord-index c.args.cords.now ≡ [] = drop_all c.loop-cord.cord-index c.args.cords.now (omega arith) in
    let i : IsCatting c.args.cords.now [] c.loop-cord.all = rw (← e) c.loop-cord.invariant in
    all_over c.args.cords.now c.loop-cord.all i.sound (catting_end c.args.cords.now c.loop-cord.all i)
