use Rattle.std.specs.Prelude.{◌≡◌}
use Rattle.cord_script.proofs.Common.{take, map, argument_term, argument_want, GivesAll}
use Rattle.cord_script.proofs.remaining_words.LineWords.wanted.Given as goal

abbrev pub invariant-loop-want : goal.invariant-loop-want
invariant-loop-want l = record {
  gave : GivesAll l.initial.self (map argument_term l.arguments.items) l.self;
  wants : map argument_want l.arguments.items ≡ take l.want-index l.wants;
}
