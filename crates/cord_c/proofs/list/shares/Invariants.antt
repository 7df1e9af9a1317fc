use Rattle.std.proofs.Common.{◌≡◌, take}
use Rattle.cord_c.specs.Lists.{texts_of}
use Rattle.cord_c.proofs.list.shares.Given as goal

-- the texts of the handles so far are made, and each handle has its own
abbrev pub invariant-loop-place : goal.invariant-loop-place
invariant-loop-place l = record {
  made : l.made.items ≡ take l.place (texts_of l.initial.parts);
  same : texts_of l.parts ≡ texts_of l.initial.parts;
}
