use Rattle.std.specs.Prelude.{◌≡◌}
use Rattle.cord_script.proofs.Common.{length, first_pair, scope_of}
use Rattle.cord_script.specs.inner.LineReading.{pair_error}
use Rattle.cord_script.proofs.errors.earliest_error.Given as goal

abbrev pub invariant-pairs : goal.invariant-pairs
invariant-pairs l = first_pair (pair_error l.pass (scope_of l.context)) l.initial.wants l.initial.words
    ≡ first_pair (pair_error l.pass (scope_of l.context)) l.wants l.words

abbrev pub decreases-pairs : goal.decreases-pairs
decreases-pairs l = length l.wants
