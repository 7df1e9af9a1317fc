use Rattle.cord_run.proofs.Common.{[], ℕ, ap, arith, sym, ◌∙◌, rules, min, subst, IsPast, ◌≡◌, ◌-◌, ◌++◌, ◌∷◌}
use Rattle.cord_run.proofs.Ranges.{few_more, part_added, part_passed}
use Rattle.cord_run.proofs.expressions.ranges.add_cord_range.Goals as goal

pub returns-then-of-eq0 : goal.returns-then-of-eq0
returns-then-of-eq0 c = record {
  added = part_passed c.args.cord.now c.args.wanted c.args.pieces.now.items
      (λ t fits. ap (λ (n : ℕ). min c.args.wanted.count (n - c.args.wanted.skip)) (sym (c.len-len.ensures.over t fits)) ∙ sym c.of.ensures
      ∙ c.if-of-eq0.true);
  past = subst (λ (n : ℕ). IsPast n c.args.wanted c.after-after.result) c.len-len.ensures.stored c.after-after.ensures;
  few = omega (arith, c.after-after.ensures.count);
}

pub returns : goal.returns
returns c =
    let pushed : c.push.new.self.items ≡ c.args.pieces.now.items ++ c.in-Ok.range ∷ [] = search rules in
    record {
      added = part_added c.args.cord.now c.args.wanted c.in-Ok.range c.args.pieces.now.items c.push.new.self.items c.in-Ok.ensures.over
          c.in-Ok.ensures.parts_from pushed;
      past = subst (λ (n : ℕ). IsPast n c.args.wanted c.after-after.result) c.len-len.ensures.stored c.after-after.ensures;
      few = few_more c.args.wanted c.after-after.result c.len-len.result c.args.pieces.now.items c.push.new.self.items c.in-Ok.range
          c.after-after.ensures
          (c.in-Ok.ensures.len ∙ ap (λ (n : ℕ). min c.args.wanted.count (n - c.args.wanted.skip)) (sym c.len-len.ensures.stored)) pushed;
    }
