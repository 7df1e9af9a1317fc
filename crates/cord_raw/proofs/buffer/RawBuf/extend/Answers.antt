use Rattle.std.proofs.Common.{length, ap, arith, rules}
use Rattle.cord_raw.proofs.buffer.RawBuf.extend.Goals as goal

pub append-requires-clause-few : goal.append-requires-clause-few
append-requires-clause-few c =
    let text = ap length c.self.view_is in let len = c.self.invariant.1 in let long = c.self.invariant.2 in let fits = c.requires.fits in
    let newest = c.copy_in-else-bytes-room.ensures.newest in
    let now = c.copy_in-else-bytes-room.ensures.len in let more = c.in_ok-fresh.ensures.len in let some = c.in_ok-fresh.ensures.some in
    let count = c.count.ensures in
    let prefix = c.split_at.ensures.front_len in let back = c.split_at.ensures.back_len in let over = c.if-bytes-room.false in
    omega arith

pub returns-in_err-fresh-clause-unchanged : goal.returns-in_err-fresh-clause-unchanged
returns-in_err-fresh-clause-unchanged c = search rules
