use Rattle.std.specs.Prelude.{◌≡◌, ◌++◌}
use Rattle.cord_plan.proofs.Common.{List, ℕ, length, read_names, read_by, AddsPlaces}
use Rattle.cord_plan.proofs.flow.numbering.add_read.Given as goal

-- the numbers of these are noted, and the others are left
abbrev pub invariant-others : goal.invariant-others
invariant-others l = record {
  done : List (List ℕ);
  whole : read_by l.statement ≡ done ++ read_names l.left;
  added : AddsPlaces done l.initial.names.items l.names.items l.initial.read.items l.read.items;
}

abbrev pub decreases-others : goal.decreases-others
decreases-others l = length (read_names l.left)
