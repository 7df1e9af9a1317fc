use Rattle.std.proofs.Common.{rules}
use Rattle.cord_c.proofs.queries.zc_starts_with.Goals as goal

pub returns-clause-answer : goal.returns-clause-answer
returns-clause-answer c = search rules
