use Rattle.cord_lines.proofs.Common.{AreFew, Counts, ap, arith, drop, plus, subst, sym, ◌-◌, ◌∙◌}
use Rattle.cord_lines.proofs.Cuts.{few_marked, mark_more}
use Rattle.cord_lines.proofs.Readings.{ahead_after, exact_counts}
use Rattle.cord_lines.proofs.around.around_after.Goals as goal

pub count_next-requires : goal.count_next-requires
count_next-requires c = record {
  ordered = omega arith;
  inside = c.requires.inside;
  held = ahead_after c.count_next-counted.ensures c.args.place (omega (arith, c.requires.ordered));
}

pub plus-requires : goal.plus-requires
plus-requires c =
    subst (λ (a : Counts). AreFew (plus c.args.from a)) (sym (exact_counts c.count_next-counted.ensures))
    (few_marked c.args.from (c.args.place - c.args.from.bytes) (drop c.args.from.bytes c.args.text.now) c.requires.modest
    (omega (arith, c.requires.inside, c.len-len.ensures.value, c.len-len.ensures.limit)))

pub returns : goal.returns
returns c = record {
  before = λ is. c.plus.ensures ∙ ap (plus c.args.from) (exact_counts c.count_next-counted.ensures) ∙ mark_more c.args.text.now c.args.from c.args.place is c.requires.ordered;
  next = exact_counts c.count_next.ensures;
}
