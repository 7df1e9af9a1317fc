use Rattle.std.proofs.Common.{ℕ, List, length, sym, subst, arith}
use Rattle.std.proofs.lemmas.Grind.{common_steps}
use Rattle.cord_ec.specs.Gathered.{leaf_parts}
use Rattle.cord_edit.specs.inner.Gaps.{gap_bytes}
use Rattle.cord_edit.specs.inner.Splices.{leaf_growth, CanSplice, IsSpliced}
use Rattle.cord_edit.proofs.Parting.{untouched}
use Rattle.cord_edit.proofs.buffer.flush.Goals as goal

pub put_bytes-requires-clause-fits : goal.put_bytes-requires-clause-fits
put_bytes-requires-clause-fits c =
    subst (λ (b : List ℕ). CanSplice c.args.cords.now.text c.args.cut_start c.args.cut_end (length b)) (sym c.bytes.ensures) c.requires

pub returns-then-len-eq0-clause-spliced : goal.returns-then-len-eq0-clause-spliced
returns-then-len-eq0-clause-spliced c = record {
  text = grind (arith, common_steps);
  len = omega (arith, c.len.ensures.value);
  gathered = untouched 1 c.args.cords.now.parts (leaf_parts (gap_bytes c.args.gap.now));
}

pub returns-clause-spliced : goal.returns-clause-spliced
returns-clause-spliced c = subst (λ (b : List ℕ). IsSpliced c.args.cut_start c.args.cut_end (leaf_growth b) (length b) c.args.cords.now c.put_bytes.new.cords)
    c.bytes.ensures c.in_ok-put_bytes.ensures.spliced
