use Rattle.cord_run.proofs.Common.{rules, subst, Asks, IfErr, FileSystem, as_long_as_reported, device_in, opened_in, Made, made_view}
use Rattle.cord_run.proofs.Common.{IsFileMade, FailsBy, IsMade, IsUnmade, file_made, ◌≡◌}
use Rattle.cord_run.proofs.Failures.{fails_reading, never_fails}
use Rattle.cord_run.proofs.Definitions.{of_file, names_made, names_unmade, no_device}
use Rattle.cord_run.proofs.targets.make.Goals as goal

pub returns-in-Some : goal.returns-in-Some
returns-in-Some g c =
    let old = opened_in c.args.sources.now in
    let new = c.file_cord.new.sources in
    let consistent : FileSystem → Type 0 = g.F.Files.consistent (device_in new) in
    let entries = c.args.store.now.entries.items in
    let path = c.in-Some.path.now in
    let r = c.file_cord.result in
    let asked = c.file_cord.ensures old entries in
    let is : file_made c.in-Some.reading path ≡ made_view c.args.made.now = c.in-Some.ensures.some in
    record {
      asked = subst (λ (m : Made). Asks g.F.Files (device_in c.args.sources.now) (device_in new) old (opened_in new)
          (IsMade consistent old (opened_in new) entries m) (IsUnmade consistent old entries m) r) is asked;
      same = search rules;
      fails = subst (λ (m : Made). IfErr r (FailsBy (IsFileMade m) ⊥)) is
          (fails_reading _ _ ⊥ (of_file c.in-Some.reading path) r asked.refused);
    }

pub returns-in-None : goal.returns-in-None
returns-in-None g c =
    let s = c.args.sources.now in
    let consistent : FileSystem → Type 0 = g.F.Files.consistent (device_in s) in
    let reported = as_long_as_reported consistent s.open_files.items s.sound.as_long in
    let entries = c.args.store.now.entries.items in
    let r = c.make_of_names.result in
    let made = made_view c.args.made.now in
    record {
      asked = record {
        made = names_made consistent (opened_in s) reported entries c.requires.over made r c.make_of_names.ensures.built;
        refused = names_unmade consistent (opened_in s) reported entries c.requires.over made r c.make_of_names.ensures.refused;
        earlier = λ file_system agrees. agrees;
        grows = search rules;
        counts = no_device _ (g.F.Files.failures (device_in s)) r c.make_of_names.ensures.refused;
      };
      same = c.make_of_names.ensures.same;
      fails = never_fails _ _ _ r c.make_of_names.ensures.refused;
    }
