use Rattle.cord_script.proofs.Common.{sym, ◌∙◌}
use Rattle.cord_script.proofs.Firsts.{same_bytes, found_here}
use Rattle.cord_script.proofs.table.search.Goals as goal

pub returns-then-is_spelled : goal.returns-then-is_spelled
returns-then-is_spelled c =
    let entry = c.entry-item.result in
    let equal = sym c.is_spelled.ensures ∙ c.if-is_spelled.true in (
      same_bytes entry.name c.args.name.now equal,
      found_here c.args.known.now c.loop-entry.entry-index entry c.args.name.now
          c.loop-entry-test.true c.entry-item.is equal c.loop-entry.invariant,
    )
