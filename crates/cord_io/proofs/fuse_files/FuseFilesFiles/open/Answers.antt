use Rattle.std.proofs.Common.{rules}
use Rattle.cord_io.proofs.fuse_files.FuseFilesFiles.open.Goals as goal

pub returns-in-Ok-clause-reported : goal.returns-in-Ok-clause-reported
returns-in-Ok-clause-reported c = search rules
