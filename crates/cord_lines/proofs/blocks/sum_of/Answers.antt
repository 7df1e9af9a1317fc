use Rattle.cord_lines.proofs.Common.{Counts, ap, arith, plus, sym, take, take_all, total_by, ◌+◌, ◌∙◌}
use Rattle.cord_lines.proofs.Countings.{alike}
use Rattle.cord_lines.proofs.Sums.{first_within, one_block_more}
use Rattle.cord_lines.proofs.blocks.sum_of.Goals as goal

pub plus-sum-requires : goal.plus-sum-requires
plus-sum-requires g c =
    let part = g.T.Counted.part in
    let sum = alike c.loop-part.invariant in
    let next = alike (c.counts.ensures ∙ ap part c.part-item.is) in
    let more = alike (one_block_more part c.args.parts.now c.loop-part.part-index c.part-item.result c.loop-part-test.true) in
    let within = first_within part c.args.parts.now (c.loop-part.part-index + 1) in
    omega arith

pub loop-part-preserved : goal.loop-part-preserved
loop-part-preserved g c =
    c.plus-sum.ensures ∙ ap (λ (a : Counts). plus a c.counts.result) c.loop-part.invariant
    ∙ ap (plus (total_by g.T.Counted.part (take c.loop-part.part-index c.args.parts.now))) (c.counts.ensures ∙ ap g.T.Counted.part c.part-item.is)
    ∙ sym (one_block_more g.T.Counted.part c.args.parts.now c.loop-part.part-index c.part-item.result c.loop-part-test.true)

pub returns : goal.returns
returns g c = c.loop-part.invariant ∙ ap (total_by g.T.Counted.part) (take_all c.loop-part.part-index c.args.parts.now c.loop-part-test.false)
