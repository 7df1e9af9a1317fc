use Rattle.cord_run.proofs.Literals.{start_made}
use Rattle.cord_run.proofs.targets.literals.start_of.Goals as goal

pub returns-in-Ok : goal.returns-in-Ok
returns-in-Ok c =
    record {
      made = start_made c.args.count c.in-Ok.cord c.requires c.in-Ok.ensures.sound c.args.function c.source_of.result.0
          c.source_of.ensures c.in-Ok.ensures.over;
    }
