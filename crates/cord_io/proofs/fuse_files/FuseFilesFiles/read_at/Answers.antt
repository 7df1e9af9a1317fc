use Rattle.std.proofs.Common.{rules}
use Rattle.cord_io.proofs.fuse_files.FuseFilesFiles.read_at.Goals as goal

pub read_at-requires-clause-inside : goal.read_at-requires-clause-inside
read_at-requires-clause-inside g c = c.requires.inside

pub returns-in-Ok-clause-reported : goal.returns-in-Ok-clause-reported
returns-in-Ok-clause-reported g c = search rules
