use Rattle.cord_run.proofs.Common.{refl, to_z-of_z, w64}
use Rattle.cord_run.proofs.Entries.{number_set}
use Rattle.cord_run.proofs.store.contents.set_number.Goals as goal

pub returns : goal.returns
returns c = number_set c.args.entries.now c.args.place c.index-entries-place.result _ refl c.args.number
    (to_z-of_z w64 c.args.number c.ranges.number) refl refl
