use Rattle.cord_ec.proofs.Leaves.{leaf_of_bytes}
use Rattle.cord_edit.proofs.Parting.{leaf_spliced}
use Rattle.cord_edit.proofs.buffer.put_bytes.Goals as goal

pub returns-then-is_parted-clause-spliced : goal.returns-then-is_parted-clause-spliced
returns-then-is_parted-clause-spliced c = leaf_spliced c.in_ok-leaf.leaf c.args.bytes.now c.in_ok-leaf.ensures.text
    (leaf_of_bytes c.args.bytes.now c.in_ok-leaf.leaf c.in_ok-leaf.ensures.sound c.in_ok-leaf.ensures.form) c.in_ok-leaf.ensures.len
    c.in_ok-splice_parted.ensures.spliced

pub returns-clause-spliced : goal.returns-clause-spliced
returns-clause-spliced c = leaf_spliced c.in_ok-leaf.leaf c.args.bytes.now c.in_ok-leaf.ensures.text
    (leaf_of_bytes c.args.bytes.now c.in_ok-leaf.leaf c.in_ok-leaf.ensures.sound c.in_ok-leaf.ensures.form) c.in_ok-leaf.ensures.len
    c.in_ok-splice.ensures.spliced
