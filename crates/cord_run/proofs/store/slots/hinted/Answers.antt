use Rattle.cord_run.proofs.Common.{◌<◌, length, sym, ◌∙◌, ap, arith, bytes_eq, Entry}
use Rattle.cord_run.proofs.Entries.{entry_there}
use Rattle.cord_run.proofs.store.slots.hinted.Goals as goal

pub returns-then-is : goal.returns-then-is
returns-then-is c =
    let place = c.hint-place.result in
    let inside : place < length c.args.entries.now = omega arith in
    record {
      within = inside;
      first = entry_there c.args.entries.now c.args.name.now place c.index-entries-place.result c.requires inside
          (ap (λ (e : Entry). bytes_eq c.args.name.now e.name) (sym c.index-entries-place.is) ∙ sym c.is.ensures ∙ c.if-is.true);
    }
