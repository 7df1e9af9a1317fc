use Rattle.cord_run.proofs.Common.{sym, ◌∙◌}
use Rattle.cord_run.proofs.Entries.{found, passed_place, passed_absent}
use Rattle.cord_run.proofs.store.slots.find_slot.Goals as goal

pub returns-then-is : goal.returns-then-is
returns-then-is c = record {
  within = c.loop-place-test.true;
  first = found c.args.entries.now c.args.name.now c.loop-place.place c.index-entries-place.result c.loop-place-test.true
      c.index-entries-place.is c.loop-place.invariant.place (sym c.is.ensures ∙ c.if-is.true);
}

pub loop-place-preserved : goal.loop-place-preserved
loop-place-preserved c =
    let differs = sym c.is.ensures ∙ c.if-is.false in
    record {
      place = passed_place c.args.entries.now c.args.name.now c.loop-place.place c.index-entries-place.result c.loop-place-test.true
          c.index-entries-place.is differs c.loop-place.invariant.place;
      absent = passed_absent c.args.entries.now c.args.name.now c.loop-place.place c.index-entries-place.result c.loop-place-test.true
          c.index-entries-place.is differs c.loop-place.invariant.absent;
    }
