-- Files in memory whose entries change one by one.
use Rattle.std.specs.Prelude.{◌≡◌, ◌≢◌, ℕ, zero, suc, List, [], ◌∷◌, length, None, Some}
use Rattle.std.specs.Prelude.{slice_get, IsSome, IsSomeAnd}
use Rattle.std.specs.String.{string_bytes}
use Rattle.cord_io.specs.Device.{FileSystem, file_at}
use Rattle.cord_io.specs.declared.memory.Entry.{Entry}
use Rattle.cord_io.specs.Memory.{file_system_of, opened_of}

-- the file system with other bytes for its file number n
abbrev pub with_bytes : FileSystem → ℕ → List ℕ → FileSystem
with_bytes [] n bytes = []
with_bytes (entry ∷ rest) zero bytes = (entry.0, bytes) ∷ rest
with_bytes (entry ∷ rest) (suc n) bytes = entry ∷ with_bytes rest n bytes

-- the entry with this number is the one at the path
pub record IsAt (es : List Entry) (at : List ℕ) (n : ℕ) (e : Entry) : Type 0 where
  pub entry : slice_get es n ≡ Some e
  pub path : string_bytes e.path ≡ at
  pub file : file_at (file_system_of es) at ≡ Some e.bytes.items

-- one entry is marked as open, and its length reported
pub record MarksOpen (old new : List Entry) (n len : ℕ) : Type 0 where
  pub file_system : file_system_of new ≡ file_system_of old
  pub reported : IsSomeAnd (slice_get old n) (λ e. (opened_of new n ≡ Some (string_bytes e.path, len)) × (len ≡ length e.bytes.items))
  pub others : (k : ℕ) → k ≢ n → opened_of new k ≡ opened_of old k
  pub kept : (k : ℕ) → IsSome (opened_of old k) → opened_of new k ≡ opened_of old k

-- the entry with a number has new bytes, and nothing is reported of it that wasn't reported before
pub record Rewrites (old new : List Entry) (n : ℕ) (bytes : List ℕ) : Type 0 where
  pub file_system : file_system_of new ≡ with_bytes (file_system_of old) n bytes
  pub count : length new ≡ length old
  pub unopened : ((k : ℕ) → opened_of old k ≡ None) → (k : ℕ) → opened_of new k ≡ None
