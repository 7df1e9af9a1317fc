-- What is read of a source.
use Rattle.std.proofs.Common.{◌≡◌, ℕ, zero, suc, ◌+◌, ◌-◌, ◌<◌, ◌≤◌, List, [], ◌∷◌, length, take, drop, Option, Some, None, Result, Ok, Err}
use Rattle.std.proofs.Common.{refl, sym, ap, subst, ◌∙◌, arith}
use Rattle.std.specs.Prelude.{slice_get, slice_index, IsSomeAnd, OnOk, unwrap_or}
use Rattle.std.specs.Option.{option_map}
use Rattle.std.specs.String.{string_bytes}
use Rattle.std.proofs.lemmas.Option.{slice_get-map}
use Rattle.cord_io.specs.declared.TheConstants.{MAX_LEN}
use Rattle.cord_io.specs.Device.{FileSystem, bytes_at}
use Rattle.cord_io.specs.inner.Functions.{function_byte}
use Rattle.cord_io.proofs.FunctionRanges.{function_read}
use Rattle.cord_file.specs.inner.Blocks.{AreRead}
use Rattle.cord_file.specs.FileTable.{Opened, lengths_in, table_in}
use Rattle.cord_file.specs.Files.{AreShortEnough, reported_of, opened_of}
use Rattle.cord_file.specs.declared.files.OpenFile.{OpenFile}

-- the length of a source that is a file
pub length_past : (opened : Opened) (id : ℕ) → 2 ≤ id → lengths_in opened id ≡ option_map (λ file. file.1) (slice_get opened (id - 2))
length_past opened zero h = absurd (omega arith)
length_past opened (suc zero) h = absurd (omega arith)
length_past opened (suc (suc n)) h =
    let e : n ≡ suc (suc n) - 2 = omega arith in
    ap (λ k. option_map (λ file. file.1) (slice_get opened k)) e

-- the same of an opened file
pub length_of_file : (files : List OpenFile) (id : ℕ) (o : Option OpenFile) → 2 ≤ id → slice_get files (id - 2) ≡ o →
    lengths_in (opened_of files) id ≡ option_map (λ file. file.len) o
length_of_file files id o h e =
    length_past (opened_of files) id h ∙ ap (option_map (λ file. file.1))
    (slice_get-map reported_of files (id - 2) ∙ ap (option_map reported_of) e)
    ∙ both o where
      both : (o : Option OpenFile) → option_map (λ file. file.1) (option_map reported_of o) ≡ option_map (λ file. file.len) o
      both None = refl
      both (Some file) = refl

-- what holds of the length reported of a source that is a file holds of the file there
pub in_slot : (P : ℕ → Type 0) (files : List OpenFile) (id : ℕ) → 2 ≤ id → IsSomeAnd (lengths_in (opened_of files) id) P →
    IsSomeAnd (slice_get files (id - 2)) (λ file. P file.len)
in_slot P files id h p = at (slice_get files (id - 2)) refl where
  at : (o : Option OpenFile) → slice_get files (id - 2) ≡ o → IsSomeAnd o (λ file. P file.len)
  at None e = subst (λ o. IsSomeAnd o P) (length_of_file files id None h e) p
  at (Some file) e = subst (λ o. IsSomeAnd o P) (length_of_file files id (Some file) h e) p

-- what holds of the length of a file holds of what the device reported
pub of_reported : (P : ℕ → Type 0) (reported : Option (List ℕ × ℕ)) (file : OpenFile) → reported ≡ Some (reported_of file) → P file.len →
    IsSomeAnd reported (λ t. P t.1)
of_reported P reported file e p = subst (λ o. IsSomeAnd o (λ t. P t.1)) (sym e) p

-- no source is longer than a cord can be
pub source_limit : (files : List OpenFile) → AreShortEnough files → (id len : ℕ) → lengths_in (opened_of files) id ≡ Some len → len ≤ MAX_LEN
source_limit files short zero len e = let same : MAX_LEN ≡ len = cc in omega (arith, same)
source_limit files short (suc zero) len e = let same : MAX_LEN ≡ len = cc in omega (arith, same)
source_limit files short (suc (suc n)) len e = at files n short e where
  at : (files : List OpenFile) (n : ℕ) → AreShortEnough files → option_map (λ file. file.1) (slice_get (opened_of files) n) ≡ Some len →
      len ≤ MAX_LEN
  at [] n short e = cc
  at (file ∷ files) zero short e = let same : file.len ≡ len = cc in subst (λ k. k ≤ MAX_LEN) same (short zero file refl)
  at (file ∷ files) (suc n) short e = at files n (λ k. short (suc k)) e

-- the bytes of a function
pub function_bytes : (file_system : FileSystem) (opened : Opened) (id start : ℕ) (out : List ℕ) → id < 2 → start + length out ≤ MAX_LEN →
    ((k : ℕ) → k < length out → slice_index out k ≡ function_byte id (start + k)) →
    out ≡ take (length out) (drop start (table_in opened file_system id))
function_bytes file_system opened zero start out below inside each = function_read zero start out inside each
function_bytes file_system opened (suc zero) start out below inside each = function_read (suc zero) start out inside each
function_bytes file_system opened (suc (suc n)) start out below inside each = absurd (omega arith)

-- the text of a source that is a file
pub text_of_file : (file_system : FileSystem) (files : List OpenFile) (id : ℕ) (file : OpenFile) → 2 ≤ id → slice_get files (id - 2) ≡ Some
    file →
    table_in (opened_of files) file_system id ≡ bytes_at file_system (string_bytes file.path)
text_of_file file_system files zero file h e = absurd (omega arith)
text_of_file file_system files (suc zero) file h e = absurd (omega arith)
text_of_file file_system files (suc (suc n)) file h e =
    let k : n ≡ suc (suc n) - 2 = omega arith in
    let here : slice_get files n ≡ Some file = ap (slice_get files) k ∙ e in
    ap (λ o. unwrap_or (option_map (λ f. bytes_at file_system f.0) o) [])
    (slice_get-map reported_of files n ∙ ap (option_map reported_of) here)

-- the bytes of a file are those of its source
pub source_read : (file_system : FileSystem) (files : List OpenFile) (id start : ℕ) (out : List ℕ) → 2 ≤ id →
    AreRead file_system (slice_get files (id - 2)) start out → out ≡ take (length out)
    (drop start (table_in (opened_of files) file_system id))
source_read file_system files id start out h read = at (slice_get files (id - 2)) refl read where
  at : (o : Option OpenFile) → slice_get files (id - 2) ≡ o → AreRead file_system o start out →
      out ≡ take (length out) (drop start (table_in (opened_of files) file_system id))
  at None e read = absurd read
  at (Some file) e read = read ∙ ap (λ b. take (length out) (drop start b)) (sym (text_of_file file_system files id file h e))

-- the same where a read may have failed
pub source_read_ok : {A E : Type 0} (r : Result A E) (file_system : FileSystem) (files : List OpenFile) (id start : ℕ) (out : List ℕ) → 2 ≤
    id →
    OnOk r (AreRead file_system (slice_get files (id - 2)) start out) →
    OnOk r (out ≡ take (length out) (drop start (table_in (opened_of files) file_system id)))
source_read_ok (Err e) file_system files id start out h read = tt
source_read_ok (Ok x) file_system files id start out h read = source_read file_system files id start out h read

-- the range of a function lies below the greatest length
pub function_limit : (opened : Opened) (id n : ℕ) → id < 2 → IsSomeAnd (lengths_in opened id) (λ len. n ≤ len) → n ≤ MAX_LEN
function_limit opened zero n below h = h
function_limit opened (suc zero) n below h = h
function_limit opened (suc (suc k)) n below h = absurd (omega arith)
