use Rattle.cord_lines.proofs.Common.{Counts, ap, arith, counts_of, drop, refl, take, without, ◌+◌, ◌∙◌}
use Rattle.cord_lines.proofs.Cuts.{counts_back}
use Rattle.cord_lines.proofs.Readings.{ahead_after, exact_counts}
use Rattle.cord_lines.proofs.around.around_up_to.Goals as goal

pub count_next-requires : goal.count_next-requires
count_next-requires c = record {
  ordered = omega arith;
  inside = omega (arith, c.requires.ordered, c.requires.inside);
  held = ahead_after c.count_next-next.ensures (c.args.place + c.args.count) refl;
}

pub returns : goal.returns
returns c = record {
  before = λ is.
      let next = counts_of (take c.args.count (drop c.args.place c.args.text.now)) in
      c.without-2.ensures ∙ ap (λ (a : Counts). without a c.count_next.result.0) (c.without.ensures ∙ ap (without c.args.end) (exact_counts c.count_next-next.ensures))
      ∙ ap (without (without c.args.end next)) (exact_counts c.count_next.ensures)
      ∙ counts_back c.args.text.now c.args.end c.args.place c.args.count is c.requires.ordered;
  next = exact_counts c.count_next-next.ensures;
}
