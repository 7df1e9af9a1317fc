use Rattle.cord_iter.proofs.Common.{Some, ◌≡◌}
use Rattle.cord_iter.proofs.Lemmas.{put_len, put_most, put_prefix, put_text}
use Rattle.cord_iter.proofs.output.put.Goals as goal

pub returns-in-Some : goal.returns-in-Some
returns-in-Some g c =
    let puts = c.put_node.ensures in
    let root : Some c.as_ref.result.now ≡ c.args.cord.now = rw c.as_ref.ensures c.in-Some.ensures.value in
    rw (← root) (record {
      text = put_text puts;
      prefix = put_prefix puts;
      len = put_len puts;
      most = put_most puts;
      faults = puts.faults;
      source = puts.source;
      finished = puts.finished;
    })
