use Rattle.std.specs.Prelude.{◌≡◌}
use Rattle.cord_plan.proofs.Common.{[], take, map, Ok, WriteFault, Writes, spaced, fragment_text}
use Rattle.cord_plan.proofs.Spacing.{blank_at}
use Rattle.cord_plan.proofs.plan_text.fragments.put_words.Given as goal

abbrev pub invariant-loop-word : goal.invariant-loop-word
invariant-loop-word g l = record {
  taken : Writes {E = WriteFault} g.W.Sink (spaced (map fragment_text (take l.word-index l.words))) l.initial.sink l.sink (Ok tt);
  blank : l.blank ≡ blank_at [] l.word-index;
}
