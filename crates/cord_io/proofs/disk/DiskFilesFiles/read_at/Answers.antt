use Rattle.std.proofs.Common.{◌≡◌, ◌∷◌, take, Some, sym, subst, rules}
use Rattle.std.specs.Prelude.{slice_get, Ok}
use Rattle.std.specs.Option.{option_map}
use Rattle.std.specs.String.{string_bytes}
use Rattle.cord_io.specs.Disk.{reported_of}
use Rattle.cord_io.specs.DiskReported.{after_reading}
use Rattle.cord_io.specs.Reported.{has_bytes, Agrees}
use Rattle.cord_io.specs.declared.faults.ReadFault.{ReadFault}
use Rattle.cord_io.proofs.OpenedFiles.{has_number, reported_after, reported_read, readers_before, readers_read, given_read, given_bytes}
use Rattle.cord_io.proofs.disk.DiskFilesFiles.read_at.Goals as goal

-- the answer that is reported of this read
pub returns-in-Ok-clause-reported : goal.returns-in-Ok-clause-reported
returns-in-Ok-clause-reported g c =
    let files = c.args.self.now.answers.opened.items in
    let old = c.index_mut-opened.result.now in
    let before = c.args.self.now.answers.trace.reported in
    let here : slice_get files c.args.no.0 ≡ Some old =
    has_number files c.args.no.0 old _ c.requires.inside c.index_mut-opened.ensures.value in
    let reported : c.then-self.result.reported ≡ has_bytes (string_bytes old.reader.path) c.args.start (take c.in-Ok.count c.read.new.out) ∷
    before = search rules in
    subst (λ o. c.then-self.result.reported ≡ after_reading {E = ReadFault} (option_map reported_of o) c.args.start c.read.new.out
    (Ok c.in-Ok.count) before) (sym here) reported

pub returns-in-Ok-clause-bytes : goal.returns-in-Ok-clause-bytes
returns-in-Ok-clause-bytes g c = λ file_system agrees.
    let files = c.args.self.now.answers.opened.items in
    let old = c.index_mut-opened.result.now in
    let before = c.args.self.now.answers.trace.reported in
    let here : slice_get files c.args.no.0 ≡ Some old =
    has_number files c.args.no.0 old _ c.requires.inside c.index_mut-opened.ensures.value in
    let reported : c.then-self.result.reported ≡ has_bytes (string_bytes old.reader.path) c.args.start (take c.in-Ok.count c.read.new.out) ∷
    before = search rules in
    reported_read file_system files c.args.no.0 old c.in-Ok.count c.args.start c.read.new.out before here c.in-Ok.ensures.some.1
    (subst (Agrees file_system) reported agrees)

pub returns-in-Ok-clause-machine_earlier : goal.returns-in-Ok-clause-machine_earlier
returns-in-Ok-clause-machine_earlier g c = λ file_system agrees.
    let files = c.args.self.now.answers.opened.items in
    let old = c.index_mut-opened.result.now in
    let here : slice_get files c.args.no.0 ≡ Some old =
    has_number files c.args.no.0 old _ c.requires.inside c.index_mut-opened.ensures.value in
    (agrees.0, readers_before file_system files c.args.no.0 old c.read.new.self here (c.read.ensures.earlier file_system) agrees.1)

pub returns-in-Ok-clause-machine_bytes : goal.returns-in-Ok-clause-machine_bytes
returns-in-Ok-clause-machine_bytes g c = λ file_system agrees.
    let files = c.args.self.now.answers.opened.items in
    let old = c.index_mut-opened.result.now in
    let here : slice_get files c.args.no.0 ≡ Some old =
    has_number files c.args.no.0 old _ c.requires.inside c.index_mut-opened.ensures.value in
    readers_read file_system files c.args.no.0 old c.read.new.self c.in-Ok.count c.args.start c.read.new.out here
    (c.in-Ok.ensures.bytes file_system) agrees.1

pub returns-in-Err-clause-opened : goal.returns-in-Err-clause-opened
returns-in-Err-clause-opened g c =
    let files = c.args.self.now.answers.opened.items in
    let old = c.index_mut-opened.result.now in
    let here : slice_get files c.args.no.0 ≡ Some old =
    has_number files c.args.no.0 old _ c.requires.inside c.index_mut-opened.ensures.value in
    let same : reported_of c.read.new.self ≡ reported_of old = search rules in
    reported_after files c.args.no.0 old c.read.new.self here same

pub returns-in-Err-clause-machine_earlier : goal.returns-in-Err-clause-machine_earlier
returns-in-Err-clause-machine_earlier g c = λ file_system agrees.
    let files = c.args.self.now.answers.opened.items in
    let old = c.index_mut-opened.result.now in
    let here : slice_get files c.args.no.0 ≡ Some old =
    has_number files c.args.no.0 old _ c.requires.inside c.index_mut-opened.ensures.value in
    (agrees.0, readers_before file_system files c.args.no.0 old c.read.new.self here (c.read.ensures.earlier file_system) agrees.1)

-- what is reported of it is what the machine gave
pub invariant_of-self : goal.invariant_of-self
invariant_of-self g c =
    let answers = c.args.self.now.answers in
    let old = c.index_mut-opened.result.now in
    let here : slice_get answers.opened.items c.args.no.0 ≡ Some old =
    has_number answers.opened.items c.args.no.0 old _ c.requires.inside c.index_mut-opened.ensures.value in
    record {
      given = given_read answers.machine.trace.reported answers.opened.items c.args.no.0 old c.read.new.self answers.trace.reported here
          c.read.ensures.earlier answers.given;
    }

pub invariant_of-self-in-Ok : goal.invariant_of-self-in-Ok
invariant_of-self-in-Ok g c =
    let answers = c.args.self.now.answers in
    let old = c.index_mut-opened.result.now in
    let here : slice_get answers.opened.items c.args.no.0 ≡ Some old =
    has_number answers.opened.items c.args.no.0 old _ c.requires.inside c.index_mut-opened.ensures.value in
    let reported : c.then-self.result.reported ≡ has_bytes (string_bytes old.reader.path) c.args.start (take c.in-Ok.count c.read.new.out) ∷
    answers.trace.reported = search rules in
    let given = given_read answers.machine.trace.reported answers.opened.items c.args.no.0 old c.read.new.self answers.trace.reported here
    c.read.ensures.earlier answers.given in
    record {
      given = given_bytes answers.machine.trace.reported answers.opened.items c.args.no.0 old c.read.new.self c.in-Ok.count c.args.start
          c.read.new.out answers.trace.reported c.then-self.result.reported here c.in-Ok.ensures.some.1 c.in-Ok.ensures.bytes reported
          given;
    }

pub invariant_of-self-in-Err : goal.invariant_of-self-in-Err
invariant_of-self-in-Err g c =
    let answers = c.args.self.now.answers in
    let old = c.index_mut-opened.result.now in
    let here : slice_get answers.opened.items c.args.no.0 ≡ Some old =
    has_number answers.opened.items c.args.no.0 old _ c.requires.inside c.index_mut-opened.ensures.value in
    record {
      given = given_read answers.machine.trace.reported answers.opened.items c.args.no.0 old c.read.new.self answers.trace.reported here
          c.read.ensures.earlier answers.given;
    }
