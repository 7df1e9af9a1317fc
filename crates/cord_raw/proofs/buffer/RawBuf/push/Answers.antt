use Rattle.std.proofs.Common.{length, ap, arith, rules}
use Rattle.cord_raw.proofs.buffer.RawBuf.push.Goals as goal

pub append-requires-clause-few : goal.append-requires-clause-few
append-requires-clause-few c =
    let one = ap length c.in_ok-block.ensures.0 in let count = c.count.ensures in let full = c.if-self-count.true in
    let fits = c.requires.fits in let text = ap length c.self.view_is in let len = c.self.invariant.2 in
    omega arith

pub returns-clause-added : goal.returns-clause-added
returns-clause-added c = search rules
