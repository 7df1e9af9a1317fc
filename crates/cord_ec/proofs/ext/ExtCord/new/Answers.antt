use Rattle.std.proofs.Common.{rules}
use Rattle.cord_ec.proofs.ext.ExtCord.new.Goals as goal

pub returns : goal.returns
returns c = search rules
