use Rattle.std.specs.Prelude.{◌≡◌, ◌≤◌, ◌++◌}
use Rattle.cord_script.proofs.Common.{List, ℕ, length, MAX_TEXT, SpellsText}
use Rattle.cord_script.proofs.words.quoted.Given as goal

abbrev pub invariant-units : goal.invariant-units
invariant-units l = record {
  read : List ℕ;
  whole : l.inner ≡ read ++ l.rest;
  spelled : SpellsText read l.text.items;
  few : length l.text.items ≤ MAX_TEXT;
}

abbrev pub decreases-units : goal.decreases-units
decreases-units l = length l.rest
