use Rattle.cord_search.proofs.Common.{IsSpanPrefix, rules, subst, sym, ℕ}
use Rattle.cord_search.proofs.spans.in_block.Goals as goal

pub returns : goal.returns
returns c = record {
  some = search rules;
  few = search rules;
  prefix = subst (λ (n : ℕ). IsSpanPrefix c.args.span n c.up_to.result) (sym c.up_to.ensures.len) c.up_to.ensures;
}
