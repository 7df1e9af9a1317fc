use Rattle.cord_run.proofs.Common.{refl}
use Rattle.cord_run.proofs.Entries.{content_set}
use Rattle.cord_run.proofs.store.contents.set_content.Goals as goal

pub returns : goal.returns
returns c = content_set c.args.entries.now c.args.place c.index-entries-place.result _ refl c.args.content refl refl refl
