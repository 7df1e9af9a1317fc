use Rattle.cord_run.proofs.Common.{None, ap, refl, ◌∙◌, cells_in}
use Rattle.cord_run.proofs.Entries.{extensible_set, value_at_place}
use Rattle.cord_run.proofs.store.contents.set_extensible.Goals as goal

pub returns : goal.returns
returns c =
    let entries = c.args.entries.now in
    let there = c.index-entries-place.result in
    record {
      before = λ name here. ap cells_in c.replace.ensures.value
          ∙ value_at_place (λ entry. cells_in entry.extensible) None entries name c.args.place there here;
      set = extensible_set entries c.args.place there _ refl (cells_in c.args.extensible) (ap cells_in c.replace.ensures.after) refl refl;
    }
