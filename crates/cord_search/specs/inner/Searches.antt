-- What a search finds, and what reading for it leaves of a source.
use Rattle.std.specs.Prelude.{◌≡◌, ℕ, ◌+◌, ◌<◌, ◌≤◌, Bool, false, [], ◌∷◌, List, length, take, Option, Result, is_err, IfOk, IfSome, ⊤}
use Rattle.cord_io.specs.Device.{FileSystem, count_after}
use Rattle.cord_io.specs.Table.{Table, Lengths, HasLengths}
use Rattle.cord_io.specs.declared.sources.Source.{Ghosts}
use Rattle.cord_node.specs.declared.Node.{Node}
use Rattle.cord_core.specs.Cord.{text_len, bytes_of}
use Rattle.cord_core.specs.Texts.{first, last}
use Rattle.cord_search.specs.LastTexts.{last_below}

-- a source was read: it counted one failure more where that was refused, has the same lengths and the same table, and makes no file
-- system consistent that wasn't so before
pub record HasRead {S : Type 0} (s : Ghosts S) (old new : S) (failed : Bool) : Type 0 where
  pub count : s.failures new ≡ count_after failed (s.failures old)
  pub lengths : s.lengths new ≡ s.lengths old
  pub table : s.table new ≡ s.table old
  pub earlier : (file_system : FileSystem) → s.consistent new file_system → s.consistent old file_system

-- the text of each source is as long over the table as was reported
pub record IsReported (lengths : Lengths) (t : Table) : Type 0 where
  pub lens : HasLengths lengths t

-- P holds over the tables that an old source has for the file systems with which a new one agrees
abbrev pub OverTables : {S : Type 0} → Ghosts S → S → S → (Table → Type 0) → Type 0
OverTables s old new P = (file_system : FileSystem) → s.consistent new file_system →
    IsReported (s.lengths old) (s.table old file_system) → P (s.table old file_system)

-- no read failed, and P holds over those tables
pub record Shows {S : Type 0} (s : Ghosts S) (old new : S) (P : Table → Type 0) : Type 0 where
  pub read : HasRead s old new false
  pub text : OverTables s old new P

-- a source was read for an answer: Q holds of it whatever was read, and P over those tables
pub record IsAnswer {S A E : Type 0} (s : Ghosts S) (old new : S) (result : Result A E) (Q : A → Type 0) (P : Table → A → Type 0) : Type 0 where
  pub always : IfOk result Q
  pub text : OverTables s old new (λ t. IfOk result (P t))
  pub read : HasRead s old new (is_err result)

-- the same where nothing holds whatever was read
abbrev pub IsRead : {S A E : Type 0} → Ghosts S → S → S → Result A E → (Table → A → Type 0) → Type 0
IsRead s old new result P = IsAnswer s old new result (λ _. ⊤) P

-- a place that was found is `start` or later, and at least n bytes before `end`
pub record IsPlace (start n end : ℕ) (found : Option ℕ) : Type 0 where
  pub from : IfSome found (λ place. start ≤ place)
  pub within : IfSome found (λ place. place + n ≤ end)

-- the answer is the first place at `from` or later of the byte c in the text of x
abbrev pub FindsByte : {S E : Type 0} → Ghosts S → S → S → Option Node → ℕ → ℕ → Result (Option ℕ) E → Type 0
FindsByte s old new x from c result = IsAnswer s old new result
    (λ found. IfSome found (λ place. from ≤ place) × IfSome found (λ place. place < text_len x))
    (λ t found. found ≡ first (bytes_of t x) from (c ∷ []))

-- the first place where a text of n bytes stands, in the first `end` bytes of x
abbrev pub Finds : {S E : Type 0} → Ghosts S → S → S → Option Node → ℕ → ℕ → ℕ → (Table → List ℕ) → Result (Option ℕ) E → Type 0
Finds s old new x from end n text result = IsAnswer s old new result (IsPlace from n end)
    (λ t found. found ≡ first (take end (bytes_of t x)) from (text t))

-- the same of bytes, and of the text of another cord
abbrev pub FindsBytesIn : {S E : Type 0} → Ghosts S → S → S → Option Node → ℕ → ℕ → List ℕ → Result (Option ℕ) E → Type 0
FindsBytesIn s old new x from end bytes result = Finds s old new x from end (length bytes) (λ _. bytes) result

abbrev pub FindsText : {S E : Type 0} → Ghosts S → S → S → Option Node → ℕ → ℕ → Option Node → Result (Option ℕ) E → Type 0
FindsText s old new x from end text result = Finds s old new x from end (text_len text) (λ t. bytes_of t text) result

-- the answer is the last place at `at` or earlier that has the byte c
abbrev pub FindsLast : {S E : Type 0} → Ghosts S → S → S → Option Node → ℕ → ℕ → Result (Option ℕ) E → Type 0
FindsLast s old new x at c result = IsAnswer s old new result (λ found. IfSome found (λ place. place ≤ at))
    (λ t found. found ≡ last (bytes_of t x) at c)

-- the answer is the last place below n where the text of the other cord stands
abbrev pub FindsLastText : {S E : Type 0} → Ghosts S → S → S → Option Node → ℕ → Option Node → Result (Option ℕ) E → Type 0
FindsLastText s old new x n text result = IsAnswer s old new result (λ found. IfSome found (λ place. place < n))
    (λ t found. found ≡ last_below (bytes_of t x) (bytes_of t text) n)
