use Rattle.cord_pos.proofs.Common.{arith, text_len, ◌-◌, ◌∙◌, ◌≡◌}
use Rattle.cord_pos.proofs.Lemmas.{walk_empty, walk_last}
use Rattle.cord_pos.proofs.Position.walk_through.Goals as goal

pub returns-then-len-eq0-clause-visits : goal.returns-then-len-eq0-clause-visits
returns-then-len-eq0-clause-visits c =
    let k : text_len c.args.cord.now ≡ 0 = omega (arith, c.len-len.ensures.stored) in
    c.set.ensures.visits ∙ walk_empty c.args.cord.now c.len-len.ensures.sound k

pub returns-clause-visits : goal.returns-clause-visits
returns-clause-visits c = c.walk_to.ensures.visits ∙ walk_last c.args.cord.now (c.len-len.result - 1) c.len-len.ensures.sound
    (omega (arith, c.len-len.ensures.stored))
