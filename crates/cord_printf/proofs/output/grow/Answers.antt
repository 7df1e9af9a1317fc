use Rattle.std.proofs.Common.{ℕ, ◌≤◌, List, length, subst, sym}
use Rattle.std.specs.Prelude.{Option, IfOk}
use Rattle.cord_node.specs.PartsFrom.{Part}
use Rattle.cord_ec.specs.Gathered.{Growth, leaf_bytes, Gathered}
use Rattle.cord_printf.specs.inner.PieceLayouts.{parts_in}
use Rattle.cord_printf.proofs.output.grow.Goals as goal

pub returns-in-Some-clause-gathered : goal.returns-in-Some-clause-gathered
returns-in-Some-clause-gathered c = subst (λ (o : Option Growth).
    IfOk c.append.result (λ _. (k : ℕ) → length c.args.bytes.now ≤ leaf_bytes k → Gathered k (parts_in o) c.append.new.grown.parts))
    (sym c.in-Some.is) c.append.ensures.gathered

pub returns-in_ok-append-in-None-clause-gathered : goal.returns-in_ok-append-in-None-clause-gathered
returns-in_ok-append-in-None-clause-gathered c = λ k few.
    let after : List Part = c.append-in-None.new.grown.parts in
    subst (λ (o : Option Growth). Gathered k (parts_in o) after) (sym c.in-None.is)
    (subst (λ (ps : List Part). Gathered k ps after) c.in_ok-begun-in-None.ensures.parts
    (c.in_ok-append-in-None.ensures.gathered k few))
