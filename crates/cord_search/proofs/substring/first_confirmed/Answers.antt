use Rattle.cord_search.proofs.Common.{IsKnown, IsStanding, None, Shows, Some, StandsAt, StandsNot, arith, bytes_of, false, first, rules, sym, take}
use Rattle.cord_search.proofs.Common.{◌+◌, ◌∙◌, ◌≡◌}
use Rattle.cord_search.proofs.Lemmas.{answered, first_whole, found_in, len_in, nowhere_in, nowhere_on, prefix_none, prefix_on, shown_by, shown_new}
use Rattle.cord_search.proofs.Lemmas.{shown_on, shown_so, stands_first, stands_on}
use Rattle.cord_search.proofs.substring.first_confirmed.Given.{Over}
use Rattle.cord_search.proofs.substring.first_confirmed.Goals.{In-Some}
use Rattle.cord_search.proofs.substring.first_confirmed.Goals as goal

-- the text stands nowhere before the place where its prefix was found
none_before : (g : Over) (c : In-Some g) → Shows g.S.Source c.args.src.now c.first_of.new.src (λ t.
    IsKnown t c.args.s.now c.args.prefix.now c.args.repeats × StandsNot t c.args.x.now (bytes_of t c.args.s.now) c.args.start c.in-Some.found)
none_before g c = shown_on c.loop-place.invariant.none c.in_ok-found.ensures (λ t held before found.
    let xs = bytes_of t c.args.x.now in
    let hit : Some c.in-Some.found ≡ first xs c.loop-place.place c.args.prefix.now =
    first_whole xs c.args.prefix.now c.args.end c.loop-place.place c.in-Some.found
    (◌∙◌ {c = first (take c.args.end xs) c.loop-place.place c.args.prefix.now} (sym c.in-Some.is) found) in (
      before.0,
      prefix_on t c.args.x.now c.args.s.now c.args.start c.loop-place.place c.in-Some.found c.args.prefix.now hit before.0.prefix
          before.1,
    ))

pub loop-place-init : goal.loop-place-init
loop-place-init g c = record {
  low = omega arith;
  none = shown_so c.requires.known (λ t held known. (known, λ q low to at. omega (arith, low, to)));
}

pub passed-requires-clause-repeats : goal.passed-requires-clause-repeats
passed-requires-clause-repeats g c = shown_new (shown_by c.loop-place.invariant.none c.in_ok-found.ensures c.in_ok-stands_at.ensures (λ t held before found stands. before.0.repeats))

pub loop-place-preserved : goal.loop-place-preserved
loop-place-preserved g c =
    let found = c.in-Some.found in
    record {
      low = search rules;
      none = shown_by (none_before g (goal.at.loop-place-preserved g c).In-Some) c.in_ok-stands_at.ensures c.in_ok-count.ensures (λ t held before stands passed.
          let here : IsStanding t c.args.x.now found c.args.s.now false = rw c.if-branch.false at stands in (
            before.0,
            nowhere_on (StandsAt (bytes_of t c.args.x.now) (bytes_of t c.args.s.now)) c.args.start (found + 1)
                (found + c.in_ok-count.count) (stands_on t c.args.x.now c.args.s.now c.args.start found here before.1) passed,
          ));
    }

pub returns-in_default : goal.returns-in_default
returns-in_default g c = answered (record { from = tt; within = tt }) (shown_on c.loop-place.invariant.none c.in_ok-found.ensures (λ t held before found.
    let xs = take c.args.end (bytes_of t c.args.x.now) in
    let hit : None ≡ first xs c.loop-place.place c.args.prefix.now =
    ◌∙◌ {c = first xs c.loop-place.place c.args.prefix.now} (sym c.in_default.is) found in
    prefix_none t c.args.x.now c.args.s.now c.args.start c.loop-place.place c.args.end c.args.prefix.now hit before.0.prefix before.1))

pub returns-then-last-found : goal.returns-then-last-found
returns-then-last-found g c = nowhere_in c.args.x.now (λ t. bytes_of t c.args.s.now) c.args.end c.args.start c.in-Some.found
    (λ t held. len_in held c.requires.pattern) (shown_so (none_before g (goal.at.returns-then-last-found g c).In-Some)
    (λ t held before. before.1)) (omega (arith, c.if-last-found.true, c.len.ensures.stored))

pub returns-then-branch : goal.returns-then-branch
returns-then-branch g c = found_in c.args.x.now (λ t. bytes_of t c.args.s.now) c.args.end c.args.start c.in-Some.found
    (λ t held. len_in held c.requires.pattern) (shown_on (none_before g (goal.at.returns-then-branch g c).In-Some) c.in_ok-stands_at.ensures
    (λ t held before stands. stands_first t c.args.x.now c.args.s.now c.args.start c.in-Some.found (search rules)
    (rw c.if-branch.true at stands) before.1)) (search rules)
    (omega (arith, c.if-last-found.false, c.len.ensures.stored, c.requires.inside))

pub returns : goal.returns
returns g c = nowhere_in c.args.x.now (λ t. bytes_of t c.args.s.now) c.args.end c.args.start c.loop-place.place
    (λ t held. len_in held c.requires.pattern) (shown_so c.loop-place.invariant.none (λ t held before. before.1))
    (omega (arith, c.loop-place-test.false, c.len.ensures.stored))
