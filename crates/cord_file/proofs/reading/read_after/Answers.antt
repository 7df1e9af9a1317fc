use Rattle.std.proofs.Common.{rules}
use Rattle.cord_file.proofs.Ranges.{more_after}
use Rattle.cord_file.proofs.reading.read_after.Goals as goal

pub returns-clause-bytes : goal.returns-clause-bytes
returns-clause-bytes g c = λ file_system agrees before.
    more_after c.read_at.result file_system (g.F.Files.opened c.args.files.now c.args.no.0) c.args.done _ c.args.out.now c.read_at.new.out
    (search rules) c.read_at.ensures.some before (c.read_at.ensures.bytes file_system agrees)

pub returns-clause-device : goal.returns-clause-device
returns-clause-device g c = record {
  earlier = c.read_at.ensures.earlier;
  opened = c.read_at.ensures.opened;
  count = c.read_at.ensures.count;
}
