use Rattle.cord_iter.proofs.Common.{arith, len_of, ℕ, ◌≤◌}
use Rattle.cord_iter.proofs.Lemmas.{AreSides, cat_sides, puts_both, puts_some}
use Rattle.cord_iter.proofs.output.+put_node.Given.{Over}
use Rattle.cord_iter.proofs.output.+put_node.Goals.{In-Cat}
use Rattle.cord_iter.proofs.output.+put_node.Goals as goal

-- the text of the node is that of its two sides
sides : (g : Over) (t : ℕ) (c : In-Cat g t) →
    AreSides g.S.Source c.args.src.now c.in-Cat.left.value c.in-Cat.right.value c.args.node.now
sides g t c = cat_sides _ c.in-Cat.left.value _ c.in-Cat.right.value _ _ _ _ c.args.node.now c.in-Cat.is c.requires.sound

pub returns-in_err-put_node-in-Cat : goal.returns-in_err-put_node-in-Cat
returns-in_err-put_node-in-Cat g t c =
    let both = sides g t (goal.at.returns-in_err-put_node-in-Cat g t c).In-Cat in
    let less : len_of c.in-Cat.left.value ≤ len_of c.args.node.now = omega (arith, both.len) in
    puts_some both.split c.from_residual-in_err-put_node-in-Cat.ensures.1 less (rw c.as_ref.ensures at c.in_err-put_node-in-Cat.ensures)

pub returns-in_ok-put_node-in-Cat : goal.returns-in_ok-put_node-in-Cat
returns-in_ok-put_node-in-Cat g t c =
    let both = sides g t (goal.at.returns-in_ok-put_node-in-Cat g t c).In-Cat in
    puts_both both.split both.len (rw c.as_ref.ensures at c.in_ok-put_node-in-Cat.ensures)
    (rw c.as_ref-in-Cat.ensures at c.put_node-in-Cat.ensures)
