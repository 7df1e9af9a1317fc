use Rattle.cord_run.proofs.Common.{rules}
use Rattle.cord_run.proofs.Numbers.{handed}
use Rattle.cord_run.proofs.targets.edits.replaced_by.Goals as goal

pub returns : goal.returns
returns c =
    let first_start = handed c.value_of.result (search rules) c.value_of.ensures in
    let first_count = handed c.value_of-2.result (search rules) c.value_of-2.ensures in
    let last_start = handed c.value_of-3.result (search rules) c.value_of-3.ensures in
    let last_count = handed c.value_of-4.result (search rules) c.value_of-4.ensures in
    rw (first_start, first_count, last_start, last_count) at c.replaced_of.ensures
