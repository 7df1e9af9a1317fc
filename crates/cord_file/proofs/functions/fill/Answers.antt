use Rattle.std.proofs.Common.{◌≡◌, ◌<◌, ◌≤◌, length, rules}
use Rattle.cord_io.specs.inner.Functions.{function_byte}
use Rattle.cord_file.proofs.Periods.{again_twice, copies_after}
use Rattle.cord_file.proofs.functions.fill.Goals as goal

pub loop-done-preserved : goal.loop-done-preserved
loop-done-preserved c =
    let byte = function_byte c.args.id.0 in
    let done = c.loop-done.done in
    let count = c.min-count.result in
    let old = c.loop-done.out in
    let new = c.copy_after.new.out in
    let same : length new ≡ length old = c.copy_after.auto.out in
    let below : done < length old = c.loop-done-test.true in
    let few : count ≤ done = search rules in
    let again = c.loop-done.invariant.again below in
    record {
      some = search rules;
      done = search rules;
      again = λ more.
          let whole : count ≡ done = search (rules, same) in
          rw whole (again_twice byte done again);
      bytes = copies_after byte c.args.start done count old new few again c.loop-done.invariant.bytes c.copy_after.ensures.prefix
          c.copy_after.ensures.beyond;
    }
