use Rattle.cord_lines.proofs.Common.{ap, arith, counts_of, ◌∙◌}
use Rattle.cord_lines.proofs.Cuts.{cut_from, few_by, marked_from, modest_by}
use Rattle.cord_lines.proofs.Sums.{min_prefix}
use Rattle.cord_lines.proofs.index.LineIndex.counts_before.Goals as goal

pub returns-then-are_near : goal.returns-then-are_near
returns-then-are_near c = λ is. c.around_after.ensures.before (marked_from c.self.inside.blocks c.self.view_is is)
    ∙ ap counts_of (min_prefix c.args.text.now c.args.place c.min-end.result (omega (arith, c.min-end.ensures, c.len.ensures.value)))

pub find-found-requires : goal.find-found-requires
find-found-requires c = few_by c.self.inside.blocks c.self.invariant.0

pub around_within-requires-clause-found : goal.around_within-requires-clause-found
around_within-requires-clause-found c = record { modest = modest_by c.self.inside.blocks c.self.invariant.0; found = c.find-found.ensures }

pub returns : goal.returns
returns c = λ is. c.around_within.ensures.before (cut_from c.self.inside.blocks c.self.view_is is)
    ∙ ap counts_of (min_prefix c.args.text.now c.args.place c.min-end.result (omega (arith, c.min-end.ensures, c.len.ensures.value)))
