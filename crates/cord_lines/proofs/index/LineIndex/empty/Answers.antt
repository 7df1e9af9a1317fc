use Rattle.cord_lines.proofs.Common.{AreBlocksOf, Block, List, [], arith, refl, subst, sym}
use Rattle.cord_lines.proofs.index.LineIndex.empty.Goals as goal

pub invariant_of-result : goal.invariant_of-result
invariant_of-result c =
    (record { text = []; cut = subst (λ (bs : List Block). AreBlocksOf bs []) (sym c.none.ensures) refl; limit = omega arith }, omega arith)
