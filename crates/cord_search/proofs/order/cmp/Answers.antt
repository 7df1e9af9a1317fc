use Rattle.cord_search.proofs.Lemmas.{shown_once, shown_over, sign_whole}
use Rattle.cord_search.proofs.order.cmp.Goals as goal

pub returns-clause-order : goal.returns-clause-order
returns-clause-order g c = shown_over (shown_once c.in_ok-ordering.ensures (λ t held order.
    sign_whole c.args.x.now c.args.y.now c.in_ok-ordering.ordering held (record { sound = c.len.ensures.sound; fits = c.requires.left_fits })
    (record { sound = c.len-2.ensures.sound; fits = c.requires.right_fits }) c.len.ensures.stored c.len-2.ensures.stored c.sign.ensures order)) g.met.S.Source.lengths_of_table
