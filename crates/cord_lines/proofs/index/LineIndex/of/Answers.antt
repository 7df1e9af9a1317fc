use Rattle.cord_lines.proofs.Common.{AreBlocksOf, AreOfSomeText, Block, List, arith, no_counts, refl, subst, sym}
use Rattle.cord_lines.proofs.Cuts.{all_cut, few_by, index_from}
use Rattle.cord_lines.proofs.index.LineIndex.of.Goals.{In_ok-blocks}
use Rattle.cord_lines.proofs.index.LineIndex.of.Goals as goal

-- all of the text is cut
abbrev all : (c : In_ok-blocks) → AreOfSomeText c.in_ok-blocks.blocks.items
all c = all_cut c.in_ok-blocks.blocks.items c.args.text.now c.len.result c.len.ensures.value
    (omega (arith, c.len.ensures.value, c.len.ensures.limit)) c.in_ok-blocks.ensures.cut

pub of-requires : goal.of-requires
of-requires c = few_by c.in_ok-blocks.blocks.items (all (goal.at.of-requires c).In_ok-blocks)

pub invariant_of-result : goal.invariant_of-result
invariant_of-result c =
    (subst AreOfSomeText (sym c.in_ok-blocks-2.ensures.blocks) (all (goal.at.invariant_of-result c).In_ok-blocks), omega arith)

pub returns : goal.returns
returns c = record {
  index = index_from c.in_ok-blocks-2.blocks c.lacks_end_of.result no_counts c.args.text.now
      (subst (λ (bs : List Block). AreBlocksOf bs c.args.text.now) (sym c.in_ok-blocks-2.ensures.blocks)
      (all (goal.at.returns c).In_ok-blocks).cut) c.lacks_end_of.ensures refl;
}
