use Rattle.cord_run.proofs.Parts.{name_built}
use Rattle.cord_run.proofs.expressions.parts.build_name.Goals as goal

pub returns : goal.returns
returns c = record {
  built = name_built c.args.store.now.entries.items c.args.name.now c.in_ok-shared.field-0 c.in_ok-shared.ensures.same
      c.in_ok-shared.ensures.sound;
  refused = tt;
}
