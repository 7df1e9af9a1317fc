use Rattle.std.proofs.Common.{refl}
use Rattle.cord_file.proofs.sources.Sources.close.Goals as goal

pub returns : goal.returns
returns g c = refl
