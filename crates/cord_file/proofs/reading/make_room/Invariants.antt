use Rattle.std.proofs.Common.{◌≡◌, ◌-◌, ◌≤◌, take}
use Rattle.std.specs.Prelude.{vec_len}
use Rattle.cord_file.proofs.reading.make_room.Given as goal

-- the bytes that were there stay, and no more room is made than is wanted
abbrev pub invariant-loop-bytes : goal.invariant-loop-bytes
invariant-loop-bytes l = record {
  prefix : take l.done l.bytes.items ≡ take l.done l.initial.bytes.items;
  done : l.done ≤ vec_len l.bytes;
  most : vec_len l.bytes ≤ l.end;
}

abbrev pub decreases-loop-bytes : goal.decreases-loop-bytes
decreases-loop-bytes l = l.end - vec_len l.bytes
