use Rattle.cord_run.proofs.Common.{length, ◌≤◌}
use Rattle.cord_run.proofs.ShortTexts.{GatheredOf}
use Rattle.cord_run.proofs.expressions.short_texts.gather_all.Given as goal

abbrev pub invariant-loop-member : goal.invariant-loop-member
invariant-loop-member l = record {
  gathered : GatheredOf l.store.entries.items l.fn.text.items l.members l.member-index l.text.items;
  short : length l.text.items ≤ 256;
}
