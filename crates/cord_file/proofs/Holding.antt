-- What holds of each opened file, while files are added.
use Rattle.std.proofs.Common.{◌≡◌, ℕ, zero, suc, ◌+◌, Bool, true, false, inl, inr, List, [], ◌∷◌, ◌++◌, length, Option, Some, None, refl}
use Rattle.std.proofs.Common.{sym, ap, subst, ◌∙◌, arith}
use Rattle.std.specs.Prelude.{slice_get, if◌then◌else◌, IsSomeAnd, unwrap_or}
use Rattle.std.specs.Option.{option_map}
use Rattle.std.specs.String.{string_bytes}
use Rattle.std.proofs.lemmas.List.{map-append}
use Rattle.cord_io.specs.Device.{FileSystem, file_at, bytes_at}
use Rattle.cord_file.specs.FileTable.{Opened, table_in, id_in}
use Rattle.cord_file.specs.Files.{Each, reported_of, opened_of}
use Rattle.cord_file.specs.Opening.{HoldsFile}
use Rattle.cord_file.specs.declared.files.OpenFile.{OpenFile}
use Rattle.cord_file.proofs.Growing.{one_more, id_place}

-- one more file, where memory was found for it
pub each_pushed : (P : OpenFile → Type 0) (files new : List OpenFile) (file : OpenFile) (b : Bool) →
    new ≡ (if b then files ++ file ∷ [] else files) → Each P files → P file → Each P new
each_pushed P files new file true e all here = subst (Each P) (sym e) (λ k f h. elim (one_more files file f k h) [
  | inl was ↦ all k f was
  | inr same ↦ subst P (sym same) here
])
each_pushed P files new file false e all here = subst (Each P) (sym e) all

-- the path of one more file
pub opened_more : (files : List OpenFile) (file : OpenFile) (path : List ℕ) → string_bytes file.path ≡ path →
    opened_of (files ++ file ∷ []) ≡ opened_of files ++ (path, file.len) ∷ []
opened_more files file path e = map-append reported_of files (file ∷ []) ∙ ap (λ p. opened_of files ++ (p, file.len) ∷ []) e

-- the file at a path is there, and as long as was reported
abbrev pub IsFound : FileSystem → List ℕ → ℕ → Type 0
IsFound file_system path len = (file_at file_system path ≡ Some (bytes_at file_system path)) × (length (bytes_at file_system path) ≡ len)

there_at : (o : Option (List ℕ)) (len : ℕ) → IsSomeAnd o (λ bytes. len ≡ length bytes) → (o ≡ Some (unwrap_or o [])) ×
    (length (unwrap_or o []) ≡ len)
there_at None len h = absurd h
there_at (Some bytes) len h = (refl, sym h)

-- what a device says of a file that it opened
pub found_there : (file_system : FileSystem) (path : List ℕ) (len : ℕ) → IsSomeAnd (file_at file_system path) (λ bytes. len ≡ length bytes)
    →
    IsFound file_system path len
found_there file_system path len h = there_at (file_at file_system path) len h

-- a source holds the file that was found
pub holds_file : (file_system : FileSystem) (opened : Opened) (path : List ℕ) (id len n : ℕ) → id ≡ suc (suc n) →
    slice_get opened n ≡ Some (path, len) → IsFound file_system path len → HoldsFile file_system opened path id len
holds_file file_system opened path id len n e slot found =
    let here : table_in opened file_system id ≡ bytes_at file_system path =
    ap (table_in opened file_system) e ∙ ap (λ o. unwrap_or (option_map (λ file. bytes_at file_system file.0) o) []) slot in
    (found.0 ∙ ap (λ b. Some b) (sym here), sym found.1 ∙ ap (λ b. length b) (sym here))

-- the file of an opened path
pub file_of : (files : List OpenFile) (path : List ℕ) (len n : ℕ) → slice_get (opened_of files) n ≡ Some (path, len) → (file : OpenFile) ×
    (slice_get files n ≡ Some file) × (string_bytes file.path ≡ path) × (file.len ≡ len)
file_of [] path len n h = cc
file_of (file ∷ files) path len zero h =
    let same : reported_of file ≡ (path, len) = cc in
    (file, refl, ap (λ p. p.0) same, ap (λ p. p.1) same)
file_of (file ∷ files) path len (suc n) h = file_of files path len n h

-- the file of a path that was found among opened files
pub file_at_place : (files : List OpenFile) (path : List ℕ) (n : ℕ) → id_in (opened_of files) path ≡ Some (n + 2) → (file : OpenFile) ×
    (slice_get files n ≡ Some file) × (string_bytes file.path ≡ path)
file_at_place files path n h =
    let place = id_place 2 (opened_of files) path (n + 2) h in
    let same : place.0 ≡ n = omega (arith, place.2) in
    let slot : slice_get (opened_of files) n ≡ Some (path, place.1) =
    subst (λ k. slice_get (opened_of files) k ≡ Some (path, place.1)) same place.3 in
    let file = file_of files path place.1 n slot in
    (file.0, file.1, file.2)
