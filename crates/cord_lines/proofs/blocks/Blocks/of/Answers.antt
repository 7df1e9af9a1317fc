use Rattle.cord_lines.proofs.Common.{AreFew, ap, block_counts, own, subst, sym, total_by, ◌∙◌}
use Rattle.cord_lines.proofs.Sums.{sums_all}
use Rattle.cord_lines.proofs.blocks.Blocks.of.Goals as goal

pub sums_of-requires-2 : goal.sums_of-requires-2
sums_of-requires-2 c =
    let groups = rw c.deref.ensures.value at c.in_ok-sums.ensures.sums in
    rw c.deref-2.ensures.value (subst AreFew (sym (sums_all block_counts c.in_ok-sums.sums.items c.args.blocks.items groups)) c.requires)

pub sum_of-all-requires : goal.sum_of-all-requires
sum_of-all-requires c =
    let groups = rw c.deref.ensures.value at c.in_ok-sums.ensures.sums in
    let tops = rw c.deref-2.ensures.value at c.in_ok-tops.ensures.sums in
    rw c.deref-3.ensures.value (subst AreFew (sym (sums_all own c.in_ok-tops.tops.items c.in_ok-sums.sums.items tops
    ∙ sums_all block_counts c.in_ok-sums.sums.items c.args.blocks.items groups)) c.requires)

pub invariant_of-result : goal.invariant_of-result
invariant_of-result c =
    let groups = rw c.deref.ensures.value at c.in_ok-sums.ensures.sums in
    let tops = rw c.deref-2.ensures.value at c.in_ok-tops.ensures.sums in
    record {
      groups = groups;
      groups_of_groups = tops;
      all = c.sum_of-all.ensures ∙ ap (total_by own) c.deref-3.ensures.value ∙ sums_all own c.in_ok-tops.tops.items c.in_ok-sums.sums.items tops
          ∙ sums_all block_counts c.in_ok-sums.sums.items c.args.blocks.items groups;
    }
