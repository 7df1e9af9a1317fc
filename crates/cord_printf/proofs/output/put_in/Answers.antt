use Rattle.std.proofs.Common.{ℕ, List, ◌++◌, subst, arith}
use Rattle.cord_node.specs.PartsFrom.{Part}
use Rattle.cord_ec.specs.Gathered.{leaf_parts}
use Rattle.cord_printf.specs.Own.{IsPrintedFrom}
use Rattle.cord_printf.specs.inner.PieceLayouts.{parts_in}
use Rattle.cord_printf.proofs.Owned.{put_from}
use Rattle.cord_printf.proofs.output.put_in.Goals as goal

pub returns-clause-made : goal.returns-clause-made
returns-clause-made c =
    let old : List Part = parts_in c.args.grown.now in
    let new : List Part = parts_in c.grow.new.grown in
    subst (λ (b : List ℕ). IsPrintedFrom 0 (old ++ leaf_parts b) new) c.as_slice.ensures.value
    (put_from old new c.as_slice.result.now (omega (arith, c.as_slice.ensures.fits)) c.in_ok-grow.ensures.gathered)
