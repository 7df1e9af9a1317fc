use Rattle.cord_run.proofs.Common.{refl}
use Rattle.cord_run.proofs.Entries.{splice_set, whole_there}
use Rattle.cord_run.proofs.store.contents.splice_content.Goals as goal

pub splice_within-requires : goal.splice_within-requires
splice_within-requires c = whole_there c.args.entries.now c.args.place c.index-entries-place.result c.requires.within c.requires.whole

pub returns : goal.returns
returns c = splice_set c.args.entries.now c.args.place c.index-entries-place.result _ refl c.args.start c.args.count c.args.middle.now
    c.splice_within.result refl refl c.splice_within.ensures
