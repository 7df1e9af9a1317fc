use Rattle.cord_run.proofs.Common.{rules, sym, subst, Asks, IfErr, IfOk-weaker, FileSystem, as_long_as_reported, device_in, opened_in, Made}
use Rattle.cord_run.proofs.Common.{made_view, IsFileMade, FailsBy, IsLength, IsUnmeasured, TakesNoMemory, file_made, ◌≡◌}
use Rattle.cord_run.proofs.Failures.{fails_reading, never_fails}
use Rattle.cord_run.proofs.Definitions.{asks_then, file_measured, file_unmeasured, of_file, takes_memory, names_reported, names_unreported}
use Rattle.cord_run.proofs.Definitions.{no_device}
use Rattle.cord_run.proofs.Known.{file_extent}
use Rattle.cord_run.proofs.targets.measure.Goals as goal

pub returns-in-Some : goal.returns-in-Some
returns-in-Some g c =
    let old = opened_in c.args.sources.now in
    let new = c.opened_length.new.sources in
    let consistent : FileSystem → Type 0 = g.F.Files.consistent (device_in new) in
    let entries = c.args.store.now.entries.items in
    let reading = c.in-Some.file.1 in
    let path = c.in-Some.file.0.now in
    let r = c.opened_length.result in
    let asked = asks_then r (file_measured consistent old entries path reading) (file_unmeasured consistent old entries path reading)
    (c.opened_length.ensures.asked old entries) in
    let is : file_made reading path ≡ made_view c.args.made.now = c.in-Some.ensures.some in
    record {
      extent = IfOk-weaker r _ _ (λ len _. file_extent entries (made_view c.args.made.now) len reading path is) asked.made;
      asked = subst (λ (m : Made). Asks g.F.Files (device_in c.args.sources.now) (device_in new) old (opened_in new)
          (IsLength consistent old entries m) (IsUnmeasured consistent old entries m) r) is asked;
      fails = subst (λ (m : Made). IfErr r (FailsBy (IsFileMade m) ⊥)) is
          (fails_reading _ _ ⊥ (of_file reading path) r asked.refused);
      unopened = c.opened_length.ensures.unopened;
      unbuilt = λ free. absurd (takes_memory reading path (subst TakesNoMemory (sym is) free));
    }

pub returns-in-None : goal.returns-in-None
returns-in-None g c =
    let s = c.args.sources.now in
    let consistent : FileSystem → Type 0 = g.F.Files.consistent (device_in s) in
    let reported = as_long_as_reported consistent s.open_files.items s.sound.as_long in
    let entries = c.args.store.now.entries.items in
    let r = c.measure_of_names.result in
    let made = made_view c.args.made.now in
    record {
      extent = c.measure_of_names.ensures.extent;
      asked = record {
        made = names_reported consistent (opened_in s) reported entries c.requires.over made r c.measure_of_names.ensures.reported;
        refused = names_unreported consistent (opened_in s) reported entries c.requires.over made r c.measure_of_names.ensures.refused;
        earlier = λ file_system agrees. agrees;
        grows = search rules;
        counts = no_device _ (g.F.Files.failures (device_in s)) r c.measure_of_names.ensures.refused;
      };
      fails = never_fails _ _ _ r c.measure_of_names.ensures.refused;
      unopened = search rules;
      unbuilt = c.measure_of_names.ensures.unbuilt;
    }
