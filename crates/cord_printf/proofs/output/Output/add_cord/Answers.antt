use Rattle.std.proofs.Common.{List, ◌++◌, ap, subst, arith}
use Rattle.std.proofs.lemmas.Result.{IfOk-weaker}
use Rattle.cord_node.specs.PartsFrom.{Part}
use Rattle.cord_core.specs.Cord.{parts_of}
use Rattle.cord_ec.specs.Gathered.{Growth, leaf_parts}
use Rattle.cord_printf.specs.Own.{IsPrintedFrom}
use Rattle.cord_printf.specs.inner.PieceLayouts.{parts_in}
use Rattle.cord_printf.proofs.Owned.{cord_from, joined_from}
use Rattle.cord_printf.proofs.output.Output.add_cord.Goals as goal

pub returns-in-Some-clause-made : goal.returns-in-Some-clause-made
returns-in-Some-clause-made c =
    IfOk-weaker _ _ _ (λ _ m. joined_from c.args.self.now.parts (parts_of c.args.cord.now) c.add_bytes.new.self.parts
    c.in-Some.ensures.part (m 1 (omega (arith, c.in-Some.ensures.short)))) c.add_bytes.ensures.made

pub returns-clause-made : goal.returns-clause-made
returns-clause-made c =
    let before : List Part = parts_in c.self.inside.grown ++ leaf_parts c.self.inside.gathered.items in
    let x : List Part = parts_of c.args.cord.now in
    let new : List Part = parts_in c.grow_by_cord.new.grown in
    IfOk-weaker _ _ _ (λ _ k. subst (λ (old : List Part). IsPrintedFrom 0 (old ++ x) (new ++ leaf_parts c.put_in.new.gathered.items))
    (ap (λ (g : Growth). g.parts) c.self.view_is) (cord_from before (parts_in c.put_in.new.grown) new x c.put_in.new.gathered.items
    c.in_ok-put_in.ensures.emptied c.in_ok-put_in.ensures.made k)) c.grow_by_cord.ensures.parts_from
