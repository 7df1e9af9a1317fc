use Rattle.cord_lines.proofs.Common.{AreBlocksOf, IsMark, List, counts_of, drop, subst, take, ℕ, ◌≡◌}
use Rattle.std.proofs.Common.{Bor, Option}
use Rattle.std.specs.Prelude.{IfSome}
use Rattle.cord_lines.proofs.Cuts.{own_mark}
use Rattle.cord_lines.proofs.around.known_of.Goals as goal

pub returns-then-removes_little-clause-mark : goal.returns-then-removes_little-clause-mark
returns-then-removes_little-clause-mark c = record {
  modest = c.up_to.ensures.modest;
  from = c.up_to.ensures.from;
  marked = λ x known.
      let is : c.in-Some.text.now ≡ x = subst (λ (o : Option (Bor (List ℕ))). IfSome o (λ text. text.now ≡ x)) c.in-Some.is known.0 in
      subst (λ (y : List ℕ). AreBlocksOf c.args.blocks.now y × IsMark y c.args.last → IsMark y c.up_to.result) is
      (λ own. c.up_to.ensures.marked c.in-Some.text.now
      (own_mark c.in-Some.text.now c.args.edit.start c.around_near-around.result.before (c.around_near-around.ensures.before own))) (known.1, known.2);
}

pub returns-then-removes_little-clause-removed : goal.returns-then-removes_little-clause-removed
returns-then-removes_little-clause-removed c = λ x given.
    let is : c.in-Some.text.now ≡ x = subst (λ (o : Option (Bor (List ℕ))). IfSome o (λ text. text.now ≡ x)) c.in-Some.is given in
    subst (λ (y : List ℕ). c.around_near-around.result.next ≡ counts_of (take c.args.edit.removed (drop c.args.edit.start y))) is c.around_near-around.ensures.next
