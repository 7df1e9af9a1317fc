use Rattle.std.specs.Prelude.{◌≤◌, ◌-◌}
use Rattle.cord_script.proofs.Common.{length, map, MAX_PARTS, Operand, GivesAll}
use Rattle.cord_script.specs.declared.kinds.Kind.TheVariants as kinds
use Rattle.cord_script.proofs.remaining_words.LineWords.cords.Given as goal

abbrev pub invariant-cords : goal.invariant-cords
invariant-cords l = record {
  gave : GivesAll l.initial.self (map (Operand kinds.Cord) l.names.items) l.self;
  high : length l.names.items ≤ MAX_PARTS;
}

abbrev pub decreases-cords : goal.decreases-cords
decreases-cords l = MAX_PARTS - length l.names.items
