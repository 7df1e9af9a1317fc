use Rattle.std.proofs.Common.{◌≡◌, [], ◌∷◌, ◌++◌, length, subst, rules}
use Rattle.cord_io.specs.Given.{AgreesWithReaders}
use Rattle.cord_io.specs.Reported.{has_len, is_missing, Agrees}
use Rattle.cord_io.specs.inner.Missing.{after_finding}
use Rattle.cord_io.proofs.OpenedFiles.{handed_out, readers_beside, missing_before}
use Rattle.cord_io.proofs.disk.DiskFilesFiles.open.Goals as goal

pub returns-in-Err-NotFound-clause-reported : goal.returns-in-Err-NotFound-clause-reported
returns-in-Err-NotFound-clause-reported g c = search rules

pub returns-in-Err-NotFound-clause-not_found : goal.returns-in-Err-NotFound-clause-not_found
returns-in-Err-NotFound-clause-not_found g c = λ file_system agrees _.
    let all : Agrees file_system (is_missing c.args.path.now ∷ c.args.self.now.answers.trace.reported) =
    subst (Agrees file_system) (returns-in-Err-NotFound-clause-reported g c) agrees in
    all.0

-- what was opened before stays where the file isn't kept
pub returns-clause-machine_earlier : goal.returns-clause-machine_earlier
returns-clause-machine_earlier g c = λ file_system agrees.
    let old = c.args.self.now.answers in
    let new = c.match-opened_file.self.answers in
    let opened : new.opened.items ≡ old.opened.items = search rules in
    let missing : new.machine.trace.reported ≡ after_finding c.args.path.now c.opened_file.result old.machine.trace.reported = search rules
    in (
      missing_before file_system c.args.path.now c.opened_file.result old.machine.trace.reported new.machine.trace.reported missing
          agrees.0,
      subst (AgreesWithReaders file_system) opened agrees.1,
    )

pub returns-in-Err-NotFound-clause-machine_not_found : goal.returns-in-Err-NotFound-clause-machine_not_found
returns-in-Err-NotFound-clause-machine_not_found g c = search rules

pub invariant_of-self : goal.invariant_of-self
invariant_of-self g c = search rules

pub returns-in-Some-clause-reported : goal.returns-in-Some-clause-reported
returns-in-Some-clause-reported g c = search rules

pub returns-in-Some-clause-found : goal.returns-in-Some-clause-found
returns-in-Some-clause-found g c = λ file_system agrees.
    let all : Agrees file_system (has_len c.args.path.now c.in-Ok.file.len ∷ c.args.self.now.answers.trace.reported) =
    subst (Agrees file_system) (returns-in-Some-clause-reported g c) agrees in
    all.0

pub returns-in-Some-clause-opened : goal.returns-in-Some-clause-opened
returns-in-Some-clause-opened g c =
    let files = c.args.self.now.answers.opened.items in
    let more = c.keep.new.self.opened.items in
    let pushed : more ≡ files ++ c.in-Ok.file ∷ [] = search rules in
    let last : c.in-Some.no.0 ≡ length files = search rules in
    handed_out files more c.in-Ok.file c.in-Some.no.0 c.args.path.now pushed last c.in-Ok.ensures.path

pub returns-in-Some-clause-machine_earlier : goal.returns-in-Some-clause-machine_earlier
returns-in-Some-clause-machine_earlier g c = λ file_system agrees.
    let old = c.args.self.now.answers in
    let new = c.keep.new.self in
    let pushed : new.opened.items ≡ old.opened.items ++ c.in-Ok.file ∷ [] = search rules in
    let machine : new.machine.trace.reported ≡ old.machine.trace.reported = search rules in (
      subst (Agrees file_system) machine agrees.0,
      readers_beside file_system old.opened.items new.opened.items c.in-Ok.file pushed agrees.1,
    )
