use Rattle.cord_iter.proofs.Common.{FileSystem, List, Node, ap, arith, bytes_over, drop, len_of, replicate, subst, sym, take, ℕ, ◌+◌, ◌-◌, ◌∙◌, ◌≡◌}
use Rattle.cord_iter.proofs.Common.{◌≤◌}
use Rattle.cord_iter.proofs.Lemmas.{IsCut, IsSplit, cut_of, failed_first, range_rest, same_text, same_walk, stopped_first, then_second, walked_here}
use Rattle.std.proofs.lemmas.List.{drop-replicate}
use Rattle.cord_iter.proofs.forward.+walk_node.Given.{Over}
use Rattle.cord_iter.proofs.forward.+walk_node.Goals.{Else-seam-from, In-Cat}
use Rattle.cord_iter.proofs.forward.+walk_node.Goals as goal

-- the text of the node is that of its two sides
cut_is : (g : Over) (t : ℕ) (c : In-Cat g t) (file_system : FileSystem) → g.S.Source.consistent c.args.src.now file_system →
    IsCut (g.S.Source.table c.args.src.now file_system) c.in-Cat.left.value c.in-Cat.right.value c.args.node.now c.args.from
cut_is g t c file_system agrees = cut_of (g.S.Source.lengths c.args.src.now) (g.S.Source.table c.args.src.now file_system) _
    c.in-Cat.left.value _
    c.in-Cat.right.value _ _ _ _ c.args.node.now c.args.from c.in-Cat.is c.requires.sound c.requires.fits
    (g.met.S.Source.lengths_of_table c.args.src.now file_system agrees)

-- where the walk begins in the left side, what is left of that comes first
split : (g : Over) (t : ℕ) (c : Else-seam-from g t) → ((file_system : FileSystem) → g.S.Source.consistent c.args.src.now file_system →
    IsCut (g.S.Source.table c.args.src.now file_system) c.in-Cat.left.value c.in-Cat.right.value c.args.node.now c.args.from) →
    IsSplit g.S.Source c.args.src.now (λ t. drop c.args.from (bytes_over t c.args.node.now))
    (λ t. drop c.args.from (bytes_over t c.in-Cat.left.value)) (λ t. bytes_over t c.in-Cat.right.value)
split g t c cut = record {
  parts = λ file_system agrees. (cut file_system agrees).in_left
      (omega (arith, c.len-seam.ensures.stored ∙ ap len_of c.deref.ensures, c.if-seam-from.false));
}

pub returns-in-Leaf : goal.returns-in-Leaf
returns-in-Leaf g t c = walked_here (λ file_system agrees.
    let text = g.S.Source.table c.args.src.now file_system in
    let from = c.args.from in
    let start = c.in-Leaf.start in
    let len = c.in-Leaf.len in
    let slice = c.as_slice.result.now in
    let inside : from ≤ len = rw c.in-Leaf.is at c.requires.inside in
    let count : (start + len) - (start + from) ≡ len - from = omega arith in
    same_walk g.V.Visitor.step (g.V.Visitor.state c.args.visitor.now) _ (take ((start + len) - (start + from)) (drop (start + from) slice))
    (drop from (bytes_over text c.args.node.now))
    (ap (λ (k : ℕ). take k (drop (start + from) slice)) count ∙ range_rest slice start len from inside
    ∙ ap (λ (xs : List ℕ). drop from (take len (drop start xs))) c.as_slice.ensures.value
    ∙ ap (λ (n : Node). drop from (bytes_over text n)) (sym c.in-Leaf.is))
    (sym c.bytes.ensures))

pub returns-in-Run : goal.returns-in-Run
returns-in-Run g t c = walked_here (λ file_system agrees.
    let text = g.S.Source.table c.args.src.now file_system in
    let from = c.args.from in
    same_walk g.V.Visitor.step (g.V.Visitor.state c.args.visitor.now) _ (replicate (c.in-Run.len - from) c.in-Run.byte)
    (drop from (bytes_over text c.args.node.now))
    (sym (drop-replicate from c.in-Run.len c.in-Run.byte) ∙ ap (λ (n : Node). drop from (bytes_over text n)) (sym c.in-Run.is))
    c.walk_run.ensures)

pub returns-in-Func : goal.returns-in-Func
returns-in-Func g t c =
    let inside : c.args.from ≤ c.in-Func.len = rw c.in-Func.is at c.requires.inside in
    same_text c.walk_func.ensures (λ file_system agrees.
    let text = g.S.Source.table c.args.src.now file_system in
    range_rest (text c.in-Func.id.0) c.in-Func.start c.in-Func.len c.args.from inside
    ∙ ap (λ (n : Node). drop c.args.from (bytes_over text n)) (sym c.in-Func.is))

pub returns-then-seam-from : goal.returns-then-seam-from
returns-then-seam-from g t c =
    let cut = (goal.at.returns-then-seam-from g t c).In-Cat in
    let seam : c.len-seam.result ≡ len_of c.in-Cat.left.value = c.len-seam.ensures.stored ∙ ap len_of c.deref.ensures in
    let inside : len_of c.in-Cat.left.value ≤ c.args.from = subst (λ k. k ≤ c.args.from) seam c.if-seam-from.true in
    same_text (rw (c.as_ref.ensures, seam) at c.walk_node.ensures)
    (λ file_system agrees. (cut_is g t cut file_system agrees).in_right inside)

pub returns-in_err-walk_node-in-Cat : goal.returns-in_err-walk_node-in-Cat
returns-in_err-walk_node-in-Cat g t c =
    let path = goal.at.returns-in_err-walk_node-in-Cat g t c in
    failed_first (split g t path.Else-seam-from (cut_is g t path.In-Cat)) c.from_residual.ensures.0
    (rw c.as_ref-else-seam-from.ensures at c.in_err-walk_node-in-Cat.ensures)

pub returns-then-branch : goal.returns-then-branch
returns-then-branch g t c =
    let path = goal.at.returns-then-branch g t c in
    stopped_first (split g t path.Else-seam-from (cut_is g t path.In-Cat))
    (rw (c.as_ref-else-seam-from.ensures, c.if-branch.true) at c.in_ok-walk_node-in-Cat.ensures)

pub returns-else-branch : goal.returns-else-branch
returns-else-branch g t c =
    let path = goal.at.returns-else-branch g t c in
    then_second (split g t path.Else-seam-from (cut_is g t path.In-Cat))
    (rw (c.as_ref-else-seam-from.ensures, c.if-branch.false) at c.in_ok-walk_node-in-Cat.ensures)
    (rw c.as_ref-else-branch.ensures at c.walk_node-else-branch.ensures)
