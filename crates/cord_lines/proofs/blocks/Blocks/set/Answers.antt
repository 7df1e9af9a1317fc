use Rattle.cord_lines.proofs.Common.{AreFew, AreSummed, AreSumsOf, Block, CanExchange, Counts, List, ap, arith, block_counts, exchanged}
use Rattle.cord_lines.proofs.Common.{get_or, length, own, refl, set, subst, sym, total, ℕ, ◌/◌, ◌<◌, ◌∙◌, ◌≡◌}
use Rattle.cord_lines.proofs.Sums.{all_can, all_is, enough, sum_can, sum_changed, sums_all}
use Rattle.cord_lines.proofs.blocks.Blocks.set.Goals as goal

-- the sums of a block's group, and of that group's group
module _ {tops sums : List Counts} {all : Counts} {bs ys : List Block} (s : AreSummed tops sums all bs) (view : bs ≡ ys) (i : ℕ) (inside : i < length ys) where
  lt : i < length bs
  lt = omega (arith, inside, ap (λ (y : List Block). length y) view)

  here : i / 64 < length sums
  here = omega (arith, lt, enough block_counts sums bs s.groups)

  above : i / 64 / 64 < length tops
  above = omega (arith, here, enough own tops sums s.groups_of_groups)

  -- the block is replaced
  module _ (b d : Block) (sum old new : Counts) (sum-is : sum ≡ get_or sums (i / 64) sum) (old-is : old ≡ block_counts (get_or bs i d))
      (new-is : new ≡ block_counts b) (few : AreFew (total (set ys i b))) where
    few_all : AreFew (total (set bs i b))
    few_all = subst (λ (y : List Block). AreFew (total (set y i b))) (sym view) few

    can : CanExchange sum old new
    can = sum_can block_counts i sums bs b d sum old new s.groups sum-is old-is new-is lt few_all

    all_also : CanExchange all old new
    all_also = all_can block_counts i bs b d all old new s.all old-is new-is lt few_all

    module _ (top changed : Counts) (top-is : top ≡ get_or tops (i / 64 / 64) top) (changed-is : changed ≡ exchanged sum old new) where
      groups : AreSumsOf block_counts (set sums (i / 64) changed) (set bs i b)
      groups = sum_changed block_counts i sums bs b d sum old new s.groups sum-is old-is new-is lt changed changed-is

      top_also : CanExchange top sum changed
      top_also = sum_can own (i / 64) tops sums changed sum top sum changed s.groups_of_groups top-is sum-is refl here
          (subst AreFew (sym (sums_all block_counts (set sums (i / 64) changed) (set bs i b) groups)) few_all)

      summed : (t a : Counts) → t ≡ exchanged top sum changed → a ≡ exchanged all old new →
          AreSummed (set tops (i / 64 / 64) t) (set sums (i / 64) changed) a (set bs i b)
      summed t a t-is a-is = record {
        groups = groups;
        groups_of_groups = sum_changed own (i / 64) tops sums changed sum top sum changed s.groups_of_groups top-is sum-is refl here t t-is;
        all = a-is ∙ all_is block_counts i bs b d all old new s.all old-is new-is lt;
      }

pub index-sum-requires : goal.index-sum-requires
index-sum-requires c = omega (arith, here c.self.invariant c.self.view_is c.args.index c.requires.inside, c.self.inside.sums.ok)

pub index_mut-requires-2 : goal.index_mut-requires-2
index_mut-requires-2 c = omega (arith, here c.self.invariant c.self.view_is c.args.index c.requires.inside, c.self.inside.sums.ok)

pub index-requires-2 : goal.index-requires-2
index-requires-2 c = omega (arith, above c.self.invariant c.self.view_is c.args.index c.requires.inside, c.self.inside.tops.ok)

pub index_mut-requires-3 : goal.index_mut-requires-3
index_mut-requires-3 c = omega (arith, above c.self.invariant c.self.view_is c.args.index c.requires.inside, c.self.inside.tops.ok)

pub exchanged-changed-requires : goal.exchanged-changed-requires
exchanged-changed-requires c = can c.self.invariant c.self.view_is c.args.index c.requires.inside c.args.block c.index.result.now c.index-sum.result.now
    c.counts-old.result c.counts-new.result c.index-sum.ensures (c.counts-old.ensures ∙ ap block_counts c.index.ensures) c.counts-new.ensures c.requires.few

pub exchanged-requires : goal.exchanged-requires
exchanged-requires c = top_also c.self.invariant c.self.view_is c.args.index c.requires.inside c.args.block c.index.result.now c.index-sum.result.now
    c.counts-old.result c.counts-new.result c.index-sum.ensures (c.counts-old.ensures ∙ ap block_counts c.index.ensures) c.counts-new.ensures c.requires.few
    c.index-2.result.now c.exchanged-changed.result c.index-2.ensures c.exchanged-changed.ensures

pub exchanged-self-inside-requires : goal.exchanged-self-inside-requires
exchanged-self-inside-requires c = all_also c.self.invariant c.self.view_is c.args.index c.requires.inside c.args.block c.index.result.now
    c.index-sum.result.now c.counts-old.result c.counts-new.result c.index-sum.ensures (c.counts-old.ensures ∙ ap block_counts c.index.ensures)
    c.counts-new.ensures c.requires.few

pub invariant_of-self : goal.invariant_of-self
invariant_of-self c = summed c.self.invariant c.self.view_is c.args.index c.requires.inside c.args.block c.index.result.now c.index-sum.result.now
    c.counts-old.result c.counts-new.result c.index-sum.ensures (c.counts-old.ensures ∙ ap block_counts c.index.ensures) c.counts-new.ensures c.requires.few
    c.index-2.result.now c.exchanged-changed.result c.index-2.ensures c.exchanged-changed.ensures c.exchanged.result c.exchanged-self-inside.result
    c.exchanged.ensures c.exchanged-self-inside.ensures
