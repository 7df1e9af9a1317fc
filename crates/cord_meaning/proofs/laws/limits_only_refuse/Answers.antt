use Rattle.std.specs.Prelude.{◌≤◌, ◌^◌, ◌-◌}
use Rattle.cord_meaning.proofs.Common.{List, ap, lit≤, MAX_LEN, MAX_TURNS, Event, State}
use Rattle.cord_meaning.specs.Meaning.{output}
use Rattle.cord_meaning.proofs.Limit.{traces_agree, end_agrees}
use Rattle.cord_meaning.proofs.laws.limits_only_refuse.Goals as goal

less : 2 ^ 32 - 1 ≤ MAX_LEN
less = lit≤ tt

pub returns-clause-trace : goal.returns-clause-trace
returns-clause-trace c = λ small great most statements files le none. traces_agree small great le files most statements none

pub returns-clause-end : goal.returns-clause-end
returns-clause-end c = λ small great most statements files le none. end_agrees small great le files most statements none

pub returns-clause-output_of_32_bits : goal.returns-clause-output_of_32_bits
returns-clause-output_of_32_bits c = λ statements files none. ap (λ (ms : List (Event State)). output ms)
    (traces_agree (2 ^ 32 - 1) MAX_LEN less files MAX_TURNS statements none)

pub returns-clause-end_of_32_bits : goal.returns-clause-end_of_32_bits
returns-clause-end_of_32_bits c = λ statements files none. end_agrees (2 ^ 32 - 1) MAX_LEN less files MAX_TURNS statements none
