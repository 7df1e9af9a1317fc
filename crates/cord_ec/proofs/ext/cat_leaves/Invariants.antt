use Rattle.std.proofs.Common.{◌≡◌, ◌+◌, ◌++◌, length, map}
use Rattle.cord_node.specs.Tree.{known}
use Rattle.cord_core.specs.Cord.{text, text_len, parts_of}
use Rattle.cord_ec.proofs.Leaves.{IsGathering}
use Rattle.cord_ec.proofs.ext.cat_leaves.Given as goal

-- what is made so far, and the rest after it, are the whole; it is made of full leaves
abbrev pub invariant-loop-rest : goal.invariant-loop-rest
invariant-loop-rest l = record {
  text_is : text l.longer ++ map known l.rest ≡ text l.initial.longer ++ map known l.bytes;
  len_is : text_len l.longer + length l.rest ≡ text_len l.initial.longer + length l.bytes;
  gathering : IsGathering (parts_of l.initial.longer) (parts_of l.longer) (length l.bytes) (length l.rest);
}

abbrev pub decreases-loop-rest : goal.decreases-loop-rest
decreases-loop-rest l = length l.rest
