use Rattle.cord_search.proofs.Common.{◌∙◌}
use Rattle.cord_search.proofs.Lemmas.{cmp_after}
use Rattle.cord_search.proofs.slices.order_of.Goals as goal

pub returns : goal.returns
returns c = c.cmp.ensures ∙ cmp_after c.args.left.now c.args.right.now c.common_prefix-same.result c.common_prefix-same.ensures.same
