use Rattle.cord_run.proofs.Common.{as_long_as_reported, device_in, opened_in, made_view, world_of}
use Rattle.cord_run.proofs.Known.{measured_stays}
use Rattle.cord_run.proofs.Definitions.{given_then, measured_serves, nothing_changed}
use Rattle.cord_run.proofs.targets.give_length.Goals as goal

pub returns-clause-serves : goal.returns-clause-serves
returns-clause-serves g c = λ line.
    let s = c.args.sources.now in
    let new = c.measure.new.sources in
    let asked = c.in_ok-len.ensures.asked in
    let before = c.args.store.now.entries.items in
    measured_serves g.F.Files (world_of (device_in s) (opened_in s) before)
    (world_of (device_in new) (opened_in new) c.give_long.new.store.entries.items) c.requires.over asked.earlier line c.args.target.now
    (made_view c.args.made.now) (as_long_as_reported (g.F.Files.consistent (device_in s)) s.open_files.items s.sound.as_long) asked.grows
    asked.counts before (nothing_changed before) c.in_ok-len.len asked.made c.give_long.result c.give_long.ensures

pub returns-clause-stays : goal.returns-clause-stays
returns-clause-stays g c =
    given_then _ c.give_long.result (λ has. measured_stays c.args.store.now.entries.items c.give_long.new.store.entries.items
    c.args.target.now c.in_ok-len.len has 0 (made_view c.args.made.now) c.in_ok-len.ensures.extent) c.give_long.ensures
