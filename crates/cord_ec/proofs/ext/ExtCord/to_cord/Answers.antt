use Rattle.std.proofs.Common.{◌≡◌, ◌++◌, ◌∙◌, List, ap, refl, subst, sym, rules}
use Rattle.std.specs.Prelude.{Option}
use Rattle.cord_node.specs.declared.Node.{Node}
use Rattle.cord_node.specs.PartsFrom.{Part, PartsFrom}
use Rattle.cord_node.proofs.PartsFromLemmas.{PartsFrom_same}
use Rattle.cord_core.specs.Cord.{parts_of}
use Rattle.cord_ec.specs.Gathered.{Growth, leaf_parts}
use Rattle.cord_ec.proofs.Leaves.{flushed}
use Rattle.cord_ec.proofs.ext.ExtCord.to_cord.Goals as goal

pub returns-clause-parts_from : goal.returns-clause-parts_from
returns-clause-parts_from c =
    subst (λ (old : List Part). PartsFrom old (parts_of c.in_ok-cord.cord)) (ap (λ (g : Growth). g.parts) c.self.view_is)
    (subst (λ (n : Option Node). PartsFrom (parts_of c.self.inside.cord ++ leaf_parts c.self.inside.buffer) (parts_of n))
    (sym c.in_ok-cord.ensures.same) c.in_ok-flush.ensures.parts_from)

pub returns-clause-stays : goal.returns-clause-stays
returns-clause-stays c =
    let cord : List Part = parts_of c.flush.new.cord in
    subst (λ (old : List Part). PartsFrom old (cord ++ leaf_parts c.flush.new.buffer)) (ap (λ (g : Growth). g.parts) c.self.view_is)
    (flushed (parts_of c.self.inside.cord ++ leaf_parts c.self.inside.buffer) cord c.flush.new.buffer c.in_ok-flush.ensures.emptied
    c.in_ok-flush.ensures.parts_from)

pub returns-in_err-flush-clause-stays : goal.returns-in_err-flush-clause-stays
returns-in_err-flush-clause-stays c =
    let before : List Part = parts_of c.self.inside.cord ++ leaf_parts c.self.inside.buffer in
    let cord : parts_of c.flush.new.cord ≡ parts_of c.self.inside.cord = ap parts_of (c.in_err-flush.ensures.cord_unchanged refl) in
    let buffer : leaf_parts c.flush.new.buffer ≡ leaf_parts c.self.inside.buffer =
    ap leaf_parts (c.in_err-flush.ensures.buffer_unchanged refl) in
    subst (λ (old : List Part). PartsFrom old (parts_of c.flush.new.cord ++ leaf_parts c.flush.new.buffer))
    (ap (λ (g : Growth). g.parts) c.self.view_is)
    (PartsFrom_same before (parts_of c.flush.new.cord ++ leaf_parts c.flush.new.buffer)
    (ap (λ (ps : List Part). ps ++ leaf_parts c.flush.new.buffer) cord
    ∙ ap (λ (ps : List Part). parts_of c.self.inside.cord ++ ps) buffer))

pub returns-clause-same : goal.returns-clause-same
returns-clause-same c = search rules
