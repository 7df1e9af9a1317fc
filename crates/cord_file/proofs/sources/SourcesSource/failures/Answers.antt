use Rattle.std.proofs.Common.{rules}
use Rattle.cord_file.proofs.sources.SourcesSource.failures.Goals as goal

pub returns : goal.returns
returns g c = search rules
