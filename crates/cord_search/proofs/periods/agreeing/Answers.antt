use Rattle.cord_search.proofs.Common.{rules}
use Rattle.cord_search.proofs.Lemmas.{agree_on}
use Rattle.cord_search.proofs.periods.agreeing.Goals as goal

pub loop-place-preserved : goal.loop-place-preserved
loop-place-preserved c = agree_on c.args.left.now c.args.right.now c.loop-place.place (search rules) (search rules)
    (search rules) c.loop-place.invariant
