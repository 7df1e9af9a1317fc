use Rattle.std.proofs.Common.{List, ◌++◌, ap, subst}
use Rattle.std.proofs.lemmas.Result.{IfOk-weaker}
use Rattle.cord_node.specs.PartsFrom.{Part}
use Rattle.cord_core.specs.Cord.{parts_of}
use Rattle.cord_ec.specs.Gathered.{Growth, leaf_parts}
use Rattle.cord_printf.specs.Own.{IsPrintedFrom}
use Rattle.cord_printf.specs.inner.PieceLayouts.{parts_in}
use Rattle.cord_printf.proofs.Owned.{printed_from, twice_from}
use Rattle.cord_printf.proofs.output.Output.to_cord.Goals as goal

pub returns-clause-made : goal.returns-clause-made
returns-clause-made c =
    let before : List Part = parts_in c.self.inside.grown ++ leaf_parts c.self.inside.gathered.items in
    let middle : List Part = parts_in c.put_in.new.grown in
    IfOk-weaker _ _ _ (λ cord k. subst (λ (old : List Part). IsPrintedFrom 0 old (parts_of cord))
    (ap (λ (g : Growth). g.parts) c.self.view_is) (twice_from 0 0 before middle (parts_of cord) c.in_ok-put_in.ensures.made
    (printed_from middle (parts_of cord) k))) c.cord_of.ensures.parts_from
