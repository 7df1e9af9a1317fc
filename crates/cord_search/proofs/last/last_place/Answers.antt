use Rattle.cord_search.proofs.Common.{None, arith, bytes_of, first, rules, sym, take, text_len, ◌+◌, ◌-◌, ◌∙◌, ◌≡◌, ◌≤◌}
use Rattle.cord_search.proofs.Lemmas.{answered, best_found, len_in, none_after, shown_on, shown_so}
use Rattle.cord_search.proofs.Lasts.{last_found}
use Rattle.cord_search.proofs.last.last_place.Goals as goal

pub loop-low-preserved-in_default : goal.loop-low-preserved-in_default
loop-low-preserved-in_default g c =
    let high = c.loop-low.high in
    let e = high - 1 + c.len-count.result in
    let before = c.loop-low.invariant in
    record {
      order = omega (arith, c.min.ensures, c.loop-low-test.true);
      most = omega (arith, before.most);
      some = search rules;
      below = before.below;
      best = shown_on before.best c.in_ok-place.ensures (λ t held best place.
          let s = bytes_of t c.args.s.now in
          let middle = high - c.min.result in
          let hit : None ≡ first (take e (bytes_of t c.args.x.now)) middle s =
          ◌∙◌ {c = first (take e (bytes_of t c.args.x.now)) middle s} (sym c.in_default.is) place in (
            best.0,
            none_after t c.args.x.now s middle high c.args.limit e
                (omega (arith, len_in held c.requires.pattern, c.len-count.ensures.stored, c.loop-low-test.true)) hit best.1,
          ));
    }

pub loop-low-preserved : goal.loop-low-preserved
loop-low-preserved g c =
    let high = c.loop-low.high in
    let e = high - 1 + c.len-count.result in
    let before = c.loop-low.invariant in
    let fits : c.in-Some.place + text_len c.args.s.now ≤ e = search rules in
    record {
      order = omega (arith, fits, c.requires.some, c.len-count.ensures.stored, c.loop-low-test.true);
      most = before.most;
      some = search rules;
      below = omega (arith, fits, c.requires.some, c.len-count.ensures.stored, c.loop-low-test.true, before.most);
      best = shown_on before.best c.in_ok-place.ensures (λ t held best place.
          let s = bytes_of t c.args.s.now in
          let middle = high - c.min.result in (
            best_found t c.args.x.now s middle e c.in-Some.place
                (◌∙◌ {c = first (take e (bytes_of t c.args.x.now)) middle s} (sym c.in-Some.is) place),
            best.1,
          ));
    }

pub returns : goal.returns
returns g c =
    let before = c.loop-low.invariant in
    answered before.below (shown_so before.best (λ t held best.
    last_found t c.args.x.now (bytes_of t c.args.s.now) c.loop-low.low c.loop-low.high c.args.limit c.loop-low.found c.loop-low-test.false
    before.most before.order (omega (arith, len_in held c.requires.text, c.requires.inside, c.requires.some)) best.0 best.1))
