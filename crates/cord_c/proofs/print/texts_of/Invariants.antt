use Rattle.std.proofs.Common.{◌≡◌, take}
use Rattle.cord_c.specs.Prints.{piece_arguments}
use Rattle.cord_c.specs.inner.Prints.{texts_in}
use Rattle.cord_c.proofs.print.texts_of.Given as goal

-- the texts of the arguments so far are made, and each argument is as it was
abbrev pub invariant-loop-place : goal.invariant-loop-place
invariant-loop-place l = record {
  made : l.made.items ≡ take l.place (texts_in l.initial.args);
  same : piece_arguments l.args ≡ piece_arguments l.initial.args;
  same_texts : texts_in l.args ≡ texts_in l.initial.args;
}
