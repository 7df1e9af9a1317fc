use Rattle.std.specs.Prelude.{◌≡◌, ◌≤◌}
use Rattle.cord_script.proofs.Common.{drop, magnitude_from}
use Rattle.cord_script.proofs.numerals.magnitude.Given as goal

abbrev pub invariant-loop-digit : goal.invariant-loop-digit
invariant-loop-digit l = record {
  small : l.value ≤ 9223372036854775809;
  rest : magnitude_from 0 l.digits ≡ magnitude_from l.value (drop l.digit-index l.digits);
}
