use Rattle.cord_run.proofs.Common.{[], rules, ◌≡◌, ◌++◌, ◌∷◌}
use Rattle.cord_run.proofs.Ranges.{copies_added}
use Rattle.cord_run.proofs.expressions.ranges.add_copies.Goals as goal

pub returns : goal.returns
returns c = λ asked is.
    let pushed : c.push.new.self.items ≡ c.args.pieces.now.items ++ c.in_ok-copies.copies ∷ [] = search rules in
    copies_added asked c.args.byte c.args.count c.in_ok-copies.copies c.args.pieces.now.items c.push.new.self.items is
    c.in_ok-copies.ensures.made.whole c.in_ok-copies.ensures.len pushed
