-- Parts of blocks, and what is kept.
use Rattle.std.proofs.Common.{◌≡◌, ℕ, ◌+◌, ◌*◌, ◌/◌, ◌%◌, ◌<◌, ◌≤◌, ◌⊎◌, inl, inr, List, [], ◌∷◌, ◌++◌, Bool, true, false, length}
use Rattle.std.proofs.Common.{length-append, take, drop, Contains, Option, Some, None, Result, Ok, Err, get_or, refl, sym, ap, subst, ◌∙◌, arith}
use Rattle.std.specs.Prelude.{slice_get, is_some, IsSome, IsSomeAnd, OnOk, if◌then◌else◌}
use Rattle.std.specs.String.{string_bytes}
use Rattle.std.proofs.lemmas.Option.{slice_get_within, slice_get_read}
use Rattle.std.proofs.lemmas.List.{drop-take, take-take, drop-drop}
use Rattle.cord_io.specs.declared.TheConstants.{MAX_LEN}
use Rattle.cord_io.specs.Device.{FileSystem, bytes_at}
use Rattle.cord_file.specs.declared.blocks.TheConstants.{BLOCK}
use Rattle.cord_file.specs.declared.blocks.BlockKey.{BlockKey}
use Rattle.cord_file.specs.declared.files.OpenFile.{OpenFile}
use Rattle.cord_file.specs.Blocks.{HeapBlock, Entry, Slotted, block_size, IsBlock, IsCached, AreCached}
use Rattle.cord_file.specs.inner.Blocks.{IsBlockIn, AreRead}
use Rattle.cord_file.specs.Files.{reported_of}
use Rattle.cord_file.specs.Soundness.{IsSound}
use Rattle.cord_file.proofs.Growing.{place_inside}

-- lists that begin with the same elements have the same parts there
same_part : (size from count : ℕ) (xs ys : List ℕ) → from + count ≤ size → take size xs ≡ take size ys →
    take count (drop from xs) ≡ take count (drop from ys)
same_part size from count xs ys fits same =
    let prefix : take (from + count) xs ≡ take (from + count) ys =
    sym (take-take (from + count) size xs fits) ∙ ap (take (from + count)) same ∙ take-take (from + count) size ys fits in
    sym (drop-take from count xs) ∙ ap (drop from) prefix ∙ drop-take from count ys

-- a part of a block is a range of the text
part_of_block : (len number from count : ℕ) (text block : List ℕ) → from + count ≤ BLOCK → number * BLOCK + from + count ≤ len →
    IsBlock len text number block → take count (drop from block) ≡ take count (drop (number * BLOCK + from) text)
part_of_block len number from count text block inside within is =
    let fits : from + count ≤ block_size len number = omega arith in
    same_part (block_size len number) from count block (drop (number * BLOCK) text) fits is
    ∙ ap (take count) (drop-drop from (number * BLOCK) text)

-- a place that has a file lies among those opened
pub inside_opened : (files : List OpenFile) (place : ℕ) (P : OpenFile → Type 0) → IsSomeAnd (slice_get files place) P → place < length files
inside_opened files place P h = at (slice_get files place) refl h where
  at : (o : Option OpenFile) → slice_get files place ≡ o → IsSomeAnd o P → place < length files
  at None e h = absurd h
  at (Some file) e h = slice_get_within files place file e

-- what holds at a place holds of its file
pub of_slot : (P : OpenFile → Type 0) {o : Option OpenFile} {file : OpenFile} → o ≡ Some file → IsSomeAnd o P → P file
of_slot P e h = subst (λ o. IsSomeAnd o P) e h

-- the file that is read at a place of a sound table: what the device reported of it, and what holds there
pub record IsOpenAt (reported : ℕ → Option (List ℕ × ℕ)) (files : List OpenFile) (place : ℕ) (P : OpenFile → Type 0) (file : OpenFile)
    : Type 0 where
  pub here : slice_get files place ≡ Some file
  pub known : reported file.no.0 ≡ Some (reported_of file)
  pub short : file.len ≤ MAX_LEN
  pub holds : P file

pub open_at : {consistent : FileSystem → Type 0} {reported : ℕ → Option (List ℕ × ℕ)} {files : List OpenFile} {blocks : List Slotted}
    (place : ℕ) (P : OpenFile → Type 0) (file : OpenFile) → IsSound consistent reported files blocks → IsSomeAnd (slice_get files place) P →
    file ≡ get_or files place file → IsOpenAt reported files place P file
open_at {files} place P file sound h e =
    let here : slice_get files place ≡ Some file = slice_get_read files (length files) place file refl (inside_opened files place P h) e in
    record {
      here = here;
      known = sound.handed_out place file here;
      short = sound.short_enough place file here;
      holds = of_slot P here h;
    }

-- what was read as a block of the file that the device reported is one of the file in its place, where the read didn't fail
pub block_of_reported : {A E : Type 0} (r : Result A E) (file_system : FileSystem) (reported : Option (List ℕ × ℕ)) (slot : Option OpenFile)
    (file : OpenFile)
    (number : ℕ) (block : List ℕ) → reported ≡ Some (reported_of file) → slot ≡ Some file →
    OnOk r (IsSomeAnd reported (λ t. IsBlock file.len (bytes_at file_system t.0) number block)) → OnOk r
    (IsBlockIn file_system slot number block)
block_of_reported (Err e) file_system reported slot file number block same here read = tt
block_of_reported (Ok x) file_system reported slot file number block same here read =
    let is : Option (List ℕ × ℕ) → Type 0 = λ o. IsSomeAnd o (λ t. IsBlock file.len (bytes_at file_system t.0) number block) in
    subst (λ o. IsBlockIn file_system o number block) (sym here) (subst is same read)

-- the block of a range lies inside the file
pub begins_inside : (o : Option OpenFile) (start count : ℕ) → 0 < count → IsSomeAnd o (λ file. start + count ≤ file.len) →
    IsSomeAnd o (λ file. start / BLOCK * BLOCK < file.len)
begins_inside None start count some h = absurd h
begins_inside (Some file) start count some h = omega (arith, some, h)

-- what holds of the file at a place, where there is one, holds there
in_slot : (P Q : OpenFile → Type 0) (o : Option OpenFile) → IsSomeAnd o P → ((f : OpenFile) → o ≡ Some f → Q f) → IsSomeAnd o Q
in_slot P Q None h each = absurd h
in_slot P Q (Some f) h each = each f refl

-- a block that was read of an opened file can be kept
pub kept_of_read : (consistent : FileSystem → Type 0) (files : List OpenFile) (key : BlockKey) (block : HeapBlock) → key.place < length
    files →
    ((file_system : FileSystem) → consistent file_system → IsBlockIn file_system (slice_get files key.place) key.number block.value) →
    IsCached consistent files (key, block)
kept_of_read consistent files key block opened read = record {
  opened = opened;
  block = λ f e file_system agrees. of_slot (λ f. IsBlock f.len (bytes_at file_system (string_bytes f.path)) key.number block.value) e
      (read file_system agrees);
}

-- what is copied of a block is the file's
pub read_of_block : (files : List OpenFile) (place number : ℕ) (block out : List ℕ) (start : ℕ) (file_system : FileSystem) →
    IsBlockIn file_system (slice_get files place) number block → number ≡ start / BLOCK →
    IsSomeAnd (slice_get files place) (λ file. start + length out ≤ file.len) →
    start % BLOCK + length out ≤ BLOCK → out ≡ take (length out) (drop (start % BLOCK) block) →
    AreRead file_system (slice_get files place) start out
read_of_block files place number block out start file_system is same inside part copied = at (slice_get files place) refl inside where
  at : (o : Option OpenFile) → slice_get files place ≡ o → IsSomeAnd o (λ file. start + length out ≤ file.len) →
      IsSomeAnd o (λ file. out ≡ take (length out) (drop start (bytes_at file_system (string_bytes file.path))))
  at None e h = absurd h
  at (Some file) e within =
      let place : number * BLOCK + start % BLOCK ≡ start = omega (arith, same) in
      let range : number * BLOCK + start % BLOCK + length out ≤ file.len = omega (arith, place, within) in
      let text : List ℕ = bytes_at file_system (string_bytes file.path) in
      copied ∙ part_of_block file.len number (start % BLOCK) (length out) text block part range
      (of_slot (λ f. IsBlock f.len (bytes_at file_system (string_bytes f.path)) number block) e is)
      ∙ ap (λ n. take (length out) (drop n text)) place

-- what is copied of a kept block is the file's
pub read_of_kept : (consistent : FileSystem → Type 0) (files : List OpenFile) (key : BlockKey) (block : HeapBlock) (out : List ℕ)
    (start : ℕ) →
    IsCached consistent files (key, block) → key.number ≡ start / BLOCK →
    IsSomeAnd (slice_get files key.place) (λ file. start + length out ≤ file.len) → start % BLOCK + length out ≤ BLOCK →
    out ≡ take (length out) (drop (start % BLOCK) block.value) → (file_system : FileSystem) → consistent file_system →
    AreRead file_system (slice_get files key.place) start out
read_of_kept consistent files key block out start kept number inside part copied file_system is =
    read_of_block files key.place key.number block.value out start file_system
    (in_slot _ _ (slice_get files key.place) inside (λ f e. kept.block f e file_system is)) number inside part copied

-- one more block is kept
pub kept_with : (consistent : FileSystem → Type 0) (files : List OpenFile) (old new : List Slotted) (entry : Entry) → AreCached consistent
    files old →
    IsCached consistent files entry → ((e : Slotted) → Contains new e → Contains old e ⊎ (e.1 ≡ entry)) → AreCached consistent files new
kept_with consistent files old new entry all one among e h = elim (among e h) [
  | inl was ↦ all e was
  | inr same ↦ subst (IsCached consistent files) (sym same) one
]

-- kept blocks stay so where one more file is opened, and memory was found for it
pub kept_after : (consistent : FileSystem → Type 0) (files new : List OpenFile) (file : OpenFile) (b : Bool) (entries : List Slotted) →
    new ≡ (if b then files ++ file ∷ [] else files) → AreCached consistent files entries → AreCached consistent new entries
kept_after consistent files new file false entries same all = subst (λ xs. AreCached consistent xs entries) (sym same) all
kept_after consistent files new file true entries same all =
    subst (λ xs. AreCached consistent xs entries) (sym same) (λ e h. more e.1 (all e h))
  where
    more : (e : Entry) → IsCached consistent files e → IsCached consistent (files ++ file ∷ []) e
    more e kept = record {
      opened = omega (arith, kept.opened, length-append files (file ∷ []));
      block = λ f here. kept.block f (sym (place_inside files (file ∷ []) e.0.place kept.opened) ∙ here);
    }

-- no block is kept
pub kept_none : (consistent : FileSystem → Type 0) (files : List OpenFile) → AreCached consistent files []
kept_none consistent files e h = absurd (omega (arith, h.1))

-- kept blocks stay so where no other file system is consistent
pub kept_earlier : (old new : FileSystem → Type 0) (files : List OpenFile) (entries : List Slotted) →
    ((file_system : FileSystem) → new file_system → old file_system) → AreCached old files entries → AreCached new files entries
kept_earlier old new files entries earlier all e h =
    let was = all e h in
    record { opened = was.opened; block = λ f here file_system agrees. was.block f here file_system (earlier file_system agrees) }

module _ {files : List OpenFile} {blocks : List Slotted} where
  -- the table stays sound where no other file system is consistent, and the numbers that were handed out stay
  pub sound_moved : {old new : FileSystem → Type 0} {before after : ℕ → Option (List ℕ × ℕ)} →
      ((file_system : FileSystem) → new file_system → old file_system) → ((n : ℕ) → IsSome (before n) → after n ≡ before n) →
      IsSound old before files blocks → IsSound new after files blocks
  sound_moved {old} {new} earlier stays sound = record {
    handed_out = λ k f h. let was = sound.handed_out k f h in stays f.no.0 (ap is_some was) ∙ was;
    short_enough = sound.short_enough;
    there = λ k f h file_system agrees. sound.there k f h file_system (earlier file_system agrees);
    as_long = λ k f h file_system agrees. sound.as_long k f h file_system (earlier file_system agrees);
    cached = kept_earlier old new files blocks earlier sound.cached;
  }

  -- and where other blocks are kept
  pub sound_keeping : {consistent : FileSystem → Type 0} {reported : ℕ → Option (List ℕ × ℕ)} {new : List Slotted} →
      AreCached consistent files new → IsSound consistent reported files blocks → IsSound consistent reported files new
  sound_keeping kept sound = record {
    handed_out = sound.handed_out;
    short_enough = sound.short_enough;
    there = sound.there;
    as_long = sound.as_long;
    cached = kept;
  }
