-- Cords over the sources of a table of files.
use Rattle.std.proofs.Common.{◌≡◌, ℕ, ◌-◌, ◌≤◌, List, length, Some, ap, ◌∙◌, inl, arith}
use Rattle.std.specs.Prelude.{unwrap_or, Option, slice_get}
use Rattle.std.proofs.lemmas.List.{take_all}
use Rattle.cord_io.specs.Device.{FileSystem}
use Rattle.cord_io.specs.Table.{HasLengths, length_at}
use Rattle.cord_node.specs.declared.Node.{Node}
use Rattle.cord_core.specs.Cord.{bytes_of}
use Rattle.cord_core.specs.Forms.{IsFuncOf}
use Rattle.cord_core.specs.Equations.{IsSourceRange}
use Rattle.cord_file.specs.FileTable.{lengths_in, table_in}
use Rattle.cord_file.specs.Files.{opened_of}
use Rattle.cord_file.specs.FileCords.{IsFuncOver}
use Rattle.cord_file.specs.inner.Blocks.{AreRead}
use Rattle.cord_file.proofs.SourceBytes.{source_read}
use Rattle.cord_file.specs.declared.files.OpenFile.{OpenFile}

-- the text of one part over the whole of a source
pub text_over : (file_system : FileSystem) (files : List OpenFile) (id len : ℕ) (cord : Option Node) →
    HasLengths (lengths_in (opened_of files)) (table_in (opened_of files) file_system) → lengths_in (opened_of files) id ≡ Some len →
    IsSourceRange id 0 len cord → bytes_of (table_in (opened_of files) file_system) cord ≡ table_in (opened_of files) file_system id
text_over file_system files id len cord long reported range =
    let t : ℕ → List ℕ = table_in (opened_of files) file_system in
    let all : length (t id) ≡ len = long id ∙ ap (λ o. unwrap_or o 0) reported in
    range.bytes t (inl (omega (arith, all))) ∙ take_all len (t id) (omega (arith, all))

-- one function part over the whole of a source
pub func_over : (files : List OpenFile) (id len : ℕ) (cord : Option Node) → lengths_in (opened_of files) id ≡ Some len →
    IsFuncOf id 0 len cord → IsSourceRange id 0 len cord → IsFuncOver (opened_of files) id len cord
func_over files id len cord reported form range =
    let all : length_at (lengths_in (opened_of files)) id ≡ len = ap (λ o. unwrap_or o 0) reported in
    record { form = form; fits = range.fits (lengths_in (opened_of files)) (inl (omega (arith, all))) }

-- the bytes that were read of a whole source
pub source_bytes : (file_system : FileSystem) (files : List OpenFile) (id len : ℕ) (bytes : List ℕ) → 2 ≤ id →
    HasLengths (lengths_in (opened_of files)) (table_in (opened_of files) file_system) → lengths_in (opened_of files) id ≡ Some len →
    length bytes ≡ len → AreRead file_system (slice_get files (id - 2)) 0 bytes → bytes ≡ table_in (opened_of files) file_system id
source_bytes file_system files id len bytes past long reported count read =
    let t : ℕ → List ℕ = table_in (opened_of files) file_system in
    let all : length (t id) ≡ len = long id ∙ ap (λ o. unwrap_or o 0) reported in
    source_read file_system files id 0 bytes past read ∙ take_all (length bytes) (t id) (omega (arith, all, count))
