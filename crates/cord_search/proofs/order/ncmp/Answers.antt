use Rattle.cord_search.proofs.Common.{arith}
use Rattle.cord_search.proofs.Lemmas.{shown_once, shown_over, sign_ranges}
use Rattle.cord_search.proofs.order.ncmp.Goals as goal

pub returns-clause-order : goal.returns-clause-order
returns-clause-order g c = shown_over (shown_once c.in_ok-ordering.ensures (λ t held order.
    sign_ranges c.args.x.now c.args.i c.args.y.now c.args.j c.args.k c.in_ok-ordering.ordering held
    (record { sound = c.len.ensures.sound; fits = c.requires.left_fits }) (record { sound = c.len-2.ensures.sound; fits = c.requires.right_fits })
    (omega (arith, c.min-left.ensures, c.saturating_sub.ensures, c.len.ensures.stored))
    (omega (arith, c.min-right.ensures, c.saturating_sub-2.ensures, c.len-2.ensures.stored)) c.sign.ensures order)) g.met.S.Source.lengths_of_table

pub compare-requires-clause-left_inside : goal.compare-requires-clause-left_inside
compare-requires-clause-left_inside g c = λ some. omega (arith, some, c.min-left.ensures, c.saturating_sub.ensures, c.len.ensures.stored)

pub compare-requires-clause-right_inside : goal.compare-requires-clause-right_inside
compare-requires-clause-right_inside g c = λ some. omega (arith, some, c.min-right.ensures, c.saturating_sub-2.ensures, c.len-2.ensures.stored)
