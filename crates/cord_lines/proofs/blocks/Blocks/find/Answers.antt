use Rattle.cord_lines.proofs.Common.{AreFew, AreSummed, Block, Counts, List, ap, arith, block_counts, no_counts, own, plus, subst, sym}
use Rattle.cord_lines.proofs.Common.{take, total, total_by, ◌∙◌, ◌≡◌}
use Rattle.cord_lines.specs.inner.Blocks.{IsFound}
use Rattle.cord_lines.proofs.Countings.{same_counts}
use Rattle.cord_lines.proofs.Sums.{group_of, sums_all}
use Rattle.cord_lines.proofs.blocks.Blocks.find.Goals as goal

none_before : (c : Counts) → plus no_counts c ≡ c
none_before c = same_counts (plus no_counts c) c (omega arith)

-- the sums are few
module _ {tops sums : List Counts} {all : Counts} {bs ys : List Block} (s : AreSummed tops sums all bs) (view : bs ≡ ys) (few : AreFew (total ys)) where
  few_blocks : AreFew (total bs)
  few_blocks = subst (λ (y : List Block). AreFew (total y)) (sym view) few

  few_sums : AreFew (total_by own sums)
  few_sums = subst AreFew (sym (sums_all block_counts sums bs s.groups)) few_blocks

  few_tops : AreFew (plus no_counts (total_by own tops))
  few_tops = subst AreFew (sym (none_before (total_by own tops) ∙ sums_all own tops sums s.groups_of_groups)) few_sums

pub last_with-top-requires-clause-few : goal.last_with-top-requires-clause-few
last_with-top-requires-clause-few c = rw c.deref.ensures.value (few_tops c.self.invariant c.self.view_is c.requires)

pub last_in_group-sum-requires : goal.last_in_group-sum-requires
last_in_group-sum-requires c =
    let top = c.last_with-top.result in
    rw c.deref-2.ensures.value (group_of own c.self.inside.tops.items c.self.inside.sums.items c.args.measure c.args.target top
    c.self.invariant.groups_of_groups (few_sums c.self.invariant c.self.view_is c.requires) (omega (arith, c.self.inside.sums.ok))
    (c.last_with-top.ensures.before ∙ none_before (total_by own (take top.index c.deref.result.now))
    ∙ ap (λ (y : List Counts). total_by own (take top.index y)) c.deref.ensures.value) c.last_with-top.ensures.most)

pub last_in_group-requires : goal.last_in_group-requires
last_in_group-requires c =
    let sum = c.last_in_group-sum.result in
    rw c.deref-3.ensures.value (group_of block_counts c.self.inside.sums.items c.self.inside.blocks.items c.args.measure c.args.target sum
    c.self.invariant.groups (few_blocks c.self.invariant c.self.view_is c.requires) (omega (arith, c.self.inside.blocks.ok))
    (c.last_in_group-sum.ensures.before ∙ ap (λ (y : List Counts). total_by own (take sum.index y)) c.deref-2.ensures.value) c.last_in_group-sum.ensures.most)

pub returns : goal.returns
returns c = subst (λ (ys : List Block). IsFound block_counts ys c.args.measure c.args.target c.last_in_group.result) (c.deref-3.ensures.value ∙ c.self.view_is)
    c.last_in_group.ensures
