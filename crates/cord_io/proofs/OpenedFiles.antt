-- Files of the machine of which one is read.
use Rattle.std.proofs.Common.{take, drop, get_or, inl, inr, ◌≡◌, ◌≢◌, ℕ, zero, suc, ◌<◌, ◌≤◌, List, [], ◌∷◌, ◌++◌, Option, None, Some, Result, Ok, Err, refl}
use Rattle.std.proofs.Common.{sym, ◌∙◌, ap, subst}
use Rattle.std.specs.Prelude.{IsSome, IsSomeAnd, slice_get, slice_set, length, Bool, true, false, if◌then◌else◌}
use Rattle.std.specs.Option.{option_map}
use Rattle.std.specs.String.{string_bytes}
use Rattle.std.proofs.lemmas.Bool.{cases_eq}
use Rattle.std.proofs.lemmas.List.{length-take-le}
use Rattle.std.proofs.lemmas.Option.{slice_get_read, slice_get_within}
use Rattle.cord_io.specs.Device.{FileSystem, bytes_at, HandsOut}
use Rattle.cord_io.specs.Disk.{reported_of, opened_of}
use Rattle.cord_io.specs.Given.{AgreesWithReaders, IsGiven}
use Rattle.cord_io.specs.Reported.{Reported, has_len, has_bytes, is_missing, Agrees, Holds}
use Rattle.cord_io.specs.inner.Missing.{after_finding}
use Rattle.cord_io.specs.declared.faults.OpenFault.{OpenFault}
use Rattle.cord_io.specs.declared.faults.OpenFault.TheVariants.{NotFound, Failed}
use Rattle.cord_io.specs.declared.opened.OpenedFile.{OpenedFile}
use Rattle.cord_io.proofs.FileSystems.{get_set_same, get_set_other}

-- the file whose number it is, where something is reported of the number
pub has_number : {F : Type 0} (files : List (OpenedFile F)) (n : ℕ) (file : OpenedFile F) (P : List ℕ × ℕ → Type 0) →
    IsSomeAnd (opened_of files n) P → file ≡ get_or files n file → slice_get files n ≡ Some file
has_number files n file P reported is = slice_get_read files (length files) n file refl (at (slice_get files n) refl reported) is where
  at : (o : Option (OpenedFile _)) → slice_get files n ≡ o → IsSomeAnd (option_map reported_of o) P → n < length files
  at None e h = absurd h
  at (Some other) e h = slice_get_within files n other e

-- what is reported of the files stays
pub reported_after : {F : Type 0} (files : List (OpenedFile F)) (n : ℕ) (old new : OpenedFile F) → slice_get files n ≡ Some old →
    reported_of new ≡ reported_of old → (k : ℕ) → opened_of (slice_set files n new) k ≡ opened_of files k
reported_after files n old new here same k = elim (cases_eq k n) [
  | inl is ↦ subst (λ j. opened_of (slice_set files n new) j ≡ opened_of files j) (sym is)
      (ap (option_map reported_of) (get_set_same files n old new here) ∙ ap (λ x. Some x) same ∙ sym (ap (option_map reported_of) here))
  | inr differs ↦ ap (option_map reported_of) (get_set_other files n k new differs)
]

one : {X : Type 0} (x y : X) → Some x ≡ Some y → x ≡ y
one x y e = cc

-- what the machine gave stays
pub readers_before : {F : Type 0} (file_system : FileSystem) (files : List (OpenedFile F)) (n : ℕ) (old new : OpenedFile F) →
    slice_get files n ≡ Some old → (Agrees file_system new.reader.trace.reported → Agrees file_system old.reader.trace.reported) →
    AgreesWithReaders file_system (slice_set files n new) → AgreesWithReaders file_system files
readers_before file_system files n old new here earlier all k file at = elim (cases_eq k n) [
  | inl is ↦
      let found : slice_get files n ≡ Some file = subst (λ j. slice_get files j ≡ Some file) is at in
      subst (λ f. Agrees file_system f.reader.trace.reported) (one old file (sym here ∙ found))
      (earlier (all n new (get_set_same files n old new here)))
  | inr differs ↦ all k file (get_set_other files n k new differs ∙ at)
]

-- bytes that the machine gave are those of the file
pub readers_read : {F : Type 0} (file_system : FileSystem) (files : List (OpenedFile F)) (n : ℕ) (old new : OpenedFile F) (k start : ℕ)
    (out : List ℕ) → slice_get files n ≡ Some old → (Agrees file_system new.reader.trace.reported →
    take k out ≡ take k (drop start (bytes_at file_system (string_bytes old.reader.path)))) → AgreesWithReaders file_system
    (slice_set files n new) →
    IsSomeAnd (opened_of files n) (λ reported. take k out ≡ take k (drop start (bytes_at file_system reported.0)))
readers_read file_system files n old new k start out here read all =
    let text : Option (OpenedFile _) → Type 0 =
    λ o. IsSomeAnd (option_map reported_of o) (λ reported. take k out ≡ take k (drop start (bytes_at file_system reported.0))) in
    subst text (sym here) (read (all n new (get_set_same files n old new here)))

-- bytes that were reported are those of the file
pub reported_read : {F : Type 0} (file_system : FileSystem) (files : List (OpenedFile F)) (n : ℕ) (old : OpenedFile F) (k start : ℕ)
    (out : List ℕ)
    (before : List Reported) → slice_get files n ≡ Some old → k ≤ length out →
    Agrees file_system (has_bytes (string_bytes old.reader.path) start (take k out) ∷ before) →
    IsSomeAnd (opened_of files n) (λ reported. take k out ≡ take k (drop start (bytes_at file_system reported.0)))
reported_read file_system files n old k start out before here fits agrees =
    let text : Option (OpenedFile _) → Type 0 =
    λ o. IsSomeAnd (option_map reported_of o) (λ reported. take k out ≡ take k (drop start (bytes_at file_system reported.0))) in
    let path : List ℕ = string_bytes old.reader.path in
    subst text (sym here) (agrees.0 ∙ ap (λ m. take m (drop start (bytes_at file_system path))) (length-take-le k out fits))

get_pushed : {F : Type 0} (files : List (OpenedFile F)) (file : OpenedFile F) → slice_get (files ++ file ∷ []) (length files) ≡ Some file
get_pushed [] file = refl
get_pushed (first ∷ rest) file = get_pushed rest file

get_beside : {F : Type 0} (files : List (OpenedFile F)) (file : OpenedFile F) (n : ℕ) → n ≢ length files →
    slice_get (files ++ file ∷ []) n ≡ slice_get files n
get_beside [] file zero differs = absurd (differs refl)
get_beside [] file (suc n) differs = refl
get_beside (first ∷ rest) file zero differs = refl
get_beside (first ∷ rest) file (suc n) differs = get_beside rest file n (λ same. differs (ap suc same))

get_kept : {F : Type 0} (files : List (OpenedFile F)) (file : OpenedFile F) (n : ℕ) → IsSome (slice_get files n) →
    slice_get (files ++ file ∷ []) n ≡ slice_get files n
get_kept [] file n there = cc
get_kept (first ∷ rest) file zero there = refl
get_kept (first ∷ rest) file (suc n) there = get_kept rest file n there

is_there : {F : Type 0} (o : Option (OpenedFile F)) → IsSome (option_map reported_of o) → IsSome o
is_there None there = cc
is_there (Some file) there = there

handed_last : {F : Type 0} (files : List (OpenedFile F)) (file : OpenedFile F) →
    HandsOut (opened_of files) (opened_of (files ++ file ∷ [])) (length files) (string_bytes file.reader.path) file.len
handed_last files file = record {
  reported = ap (option_map reported_of) (get_pushed files file);
  others = λ n differs. ap (option_map reported_of) (get_beside files file n differs);
  kept = λ n there. ap (option_map reported_of) (get_kept files file n (is_there (slice_get files n) there));
}

-- the next number was handed out
pub handed_out : {F : Type 0} (files more : List (OpenedFile F)) (file : OpenedFile F) (n : ℕ) (path : List ℕ) →
    more ≡ files ++ file ∷ [] → n ≡ length files → string_bytes file.reader.path ≡ path →
    HandsOut (opened_of files) (opened_of more) n path file.len
handed_out files more file n path is last same =
    let by_path =
    subst (λ p. HandsOut (opened_of files) (opened_of (files ++ file ∷ [])) (length files) p file.len) same (handed_last files file) in
    let by_number = subst (λ k. HandsOut (opened_of files) (opened_of (files ++ file ∷ [])) k path file.len) (sym last) by_path in
    subst (λ fs. HandsOut (opened_of files) (opened_of fs) n path file.len) (sym is) by_number

-- what the machine gave of the others stays where one more file is open
pub readers_beside : {F : Type 0} (file_system : FileSystem) (files more : List (OpenedFile F)) (file : OpenedFile F) → more ≡ files ++ file
    ∷ [] →
    AgreesWithReaders file_system more → AgreesWithReaders file_system files
readers_beside file_system files more file is all n other at =
    all n other (ap (λ fs. slice_get fs n) is ∙ get_kept files file n (subst IsSome (sym at) refl) ∙ at)

-- ---- what was reported is what the machine gave
-- still where the machine was asked for a path
given_found : {F T : Type 0} (path : List ℕ) (r : Result T OpenFault) (missing : List Reported) (files : List (OpenedFile F))
    (reported : List Reported) →
    IsGiven missing files reported → IsGiven (after_finding path r missing) files reported
given_found path (Ok x) missing files reported given = given
given_found path (Err NotFound) missing files reported given = λ file_system agrees all. given file_system agrees.1 all
given_found path (Err Failed) missing files reported given = given

pub given_asked : {F T : Type 0} (path : List ℕ) (r : Result T OpenFault) (missing after : List Reported) (files : List (OpenedFile F))
    (reported : List Reported) → after ≡ after_finding path r missing → IsGiven missing files reported → IsGiven after files reported
given_asked path r missing after files reported is given =
    subst (λ m. IsGiven m files reported) (sym is) (given_found path r missing files reported given)

-- still where one more file is open
pub given_beside : {F : Type 0} (missing : List Reported) (files more : List (OpenedFile F)) (file : OpenedFile F)
    (reported : List Reported) →
    more ≡ files ++ file ∷ [] → IsGiven missing files reported → IsGiven missing more reported
given_beside missing files more file reported is given =
    λ file_system agrees all. given file_system agrees (readers_beside file_system files more file is all)

pub given_pushed : {F : Type 0} (missing : List Reported) (files more : List (OpenedFile F)) (file : OpenedFile F)
    (reported : List Reported) (b : Bool) →
    more ≡ (if b then files ++ file ∷ [] else files) → IsGiven missing files reported → IsGiven missing more reported
given_pushed missing files more file reported true is given = given_beside missing files more file reported is given
given_pushed missing files more file reported false is given = subst (λ fs. IsGiven missing fs reported) (sym is) given

-- and its length was reported
pub given_len : {F : Type 0} (missing : List Reported) (files more : List (OpenedFile F)) (file : OpenedFile F) (path : List ℕ)
    (reported after : List Reported) → more ≡ files ++ file ∷ [] → file.reader.trace.reported ≡ has_len path file.len ∷ [] →
    after ≡ has_len path file.len ∷ reported → IsGiven missing more reported → IsGiven missing more after
given_len missing files more file path reported after is len one given = λ file_system agrees all.
    let here : slice_get more (length files) ≡ Some file = ap (λ fs. slice_get fs (length files)) is ∙ get_pushed files file in
    let gave : Agrees file_system (has_len path file.len ∷ []) = subst (Agrees file_system) len (all (length files) file here) in
    subst (Agrees file_system) (sym one) (gave.0, given file_system agrees all)

-- still where one was read
pub given_read : {F : Type 0} (missing : List Reported) (files : List (OpenedFile F)) (n : ℕ) (old new : OpenedFile F)
    (reported : List Reported) →
    slice_get files n ≡ Some old →
    ((file_system : FileSystem) → Agrees file_system new.reader.trace.reported → Agrees file_system old.reader.trace.reported) → IsGiven
    missing files reported →
    IsGiven missing (slice_set files n new) reported
given_read missing files n old new reported here earlier given =
    λ file_system agrees all. given file_system agrees (readers_before file_system files n old new here (earlier file_system) all)

-- and bytes of it were reported
pub given_bytes : {F : Type 0} (missing : List Reported) (files : List (OpenedFile F)) (n : ℕ) (old new : OpenedFile F) (k start : ℕ)
    (out : List ℕ) (reported after : List Reported) → slice_get files n ≡ Some old → k ≤ length out →
    ((file_system : FileSystem) → Agrees file_system new.reader.trace.reported →
    take k out ≡ take k (drop start (bytes_at file_system (string_bytes old.reader.path)))) →
    after ≡ has_bytes (string_bytes old.reader.path) start (take k out) ∷ reported → IsGiven missing (slice_set files n new) reported →
    IsGiven missing (slice_set files n new) after
given_bytes missing files n old new k start out reported after here fits read one given = λ file_system agrees all.
    let path : List ℕ = string_bytes old.reader.path in
    let text : take k out ≡ take k (drop start (bytes_at file_system path)) = read file_system
    (all n new (get_set_same files n old new here)) in
    let holds : Holds file_system (has_bytes path start (take k out)) =
    text ∙ ap (λ m. take m (drop start (bytes_at file_system path))) (sym (length-take-le k out fits)) in
    subst (Agrees file_system) (sym one) (holds, given file_system agrees all)

-- what the machine reported before it was asked for a path
pub missing_before : {T : Type 0} (file_system : FileSystem) (path : List ℕ) (r : Result T OpenFault) (missing after : List Reported) →
    after ≡ after_finding path r missing → Agrees file_system after → Agrees file_system missing
missing_before file_system path (Ok x) missing after is agrees = subst (Agrees file_system) is agrees
missing_before file_system path (Err NotFound) missing after is agrees = (subst (Agrees file_system) is agrees).1
missing_before file_system path (Err Failed) missing after is agrees = subst (Agrees file_system) is agrees
