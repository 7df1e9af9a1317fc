use Rattle.cord_run.proofs.Common.{rules, as_long_as_reported, Grows, device_in, opened_in, made_view, world_of}
use Rattle.cord_run.proofs.Edits.{edited_serves}
use Rattle.cord_run.proofs.Definitions.{built_serves}
use Rattle.cord_run.proofs.targets.give_cord.Goals as goal

pub returns-in_ok-cord-in-None : goal.returns-in_ok-cord-in-None
returns-in_ok-cord-in-None g c = λ line.
    let s = c.args.sources.now in
    let new = c.make.new.sources in
    let made = c.in_ok-cord-in-None.ensures in
    built_serves g.F.Files (world_of (device_in s) (opened_in s) c.args.store.now.entries.items)
    (world_of (device_in new) (opened_in new) c.give.new.store.entries.items) c.requires.over made.asked.earlier line c.args.target.now
    (made_view c.args.made.now) (as_long_as_reported (g.F.Files.consistent (device_in s)) s.open_files.items s.sound.as_long)
    made.asked.grows made.asked.counts c.make.new.store.entries.items made.same c.in_ok-cord-in-None.cord made.asked.made c.give.result
    c.give.ensures

pub returns-in-Some : goal.returns-in-Some
returns-in-Some g c = λ line.
    let s = c.args.sources.now in
    let grows : Grows (opened_in s) (opened_in s) = search rules in
    edited_serves g.F.Files (world_of (device_in s) (opened_in s) c.args.store.now.entries.items) c.edit_in_place.new.store.entries.items
    c.requires.over (as_long_as_reported (g.F.Files.consistent (device_in s)) s.open_files.items s.sound.as_long) grows line
    c.args.target.now (made_view c.args.made.now) c.in-Some.edit.middle c.edit_in_place.result c.edit_in_place.ensures.edited
    c.edit_in_place.ensures.refused
