-- Texts that are cut into pieces, of each of which a block has the counts.
use Rattle.std.specs.Prelude.{◌≡◌, ℕ, ◌+◌, ◌<◌, ◌≤◌, ◌++◌, Bool, List, [], ◌∷◌, length, map, take, drop}
use Rattle.cord_io.specs.declared.TheConstants.{MAX_LEN}
use Rattle.cord_lines.specs.Counts.{counts_of}
use Rattle.cord_lines.specs.Index.{Indexed}
use Rattle.cord_lines.specs.declared.blocks.Block.{Block}
use Rattle.cord_lines.specs.declared.blocks.Found.{Found}
use Rattle.cord_lines.specs.declared.blocks.Measure.TheVariants.{Bytes}
use Rattle.cord_lines.specs.declared.counting.Counts.{Counts}
use Rattle.cord_lines.specs.inner.Blocks.{block_counts, total, IsFound}

abbrev pub AreBlocksOf : List Block → List ℕ → Type 0
AreBlocksOf [] x = x ≡ []
AreBlocksOf (b ∷ bs) x = (piece : List ℕ) × (rest : List ℕ) × (x ≡ piece ++ rest) × (block_counts b ≡ counts_of piece) × AreBlocksOf bs rest

-- some counts are of no more bytes than a text can have
pub record IsModest (c : Counts) : Type 0 where
  pub bytes : c.bytes ≤ MAX_LEN
  pub ends : c.ends ≤ MAX_LEN
  pub chars : c.chars ≤ MAX_LEN

-- the blocks hold no more than a text can have
abbrev pub AreModest : List Block → Type 0
AreModest bs = IsModest (total bs)

-- they are those of some text
pub record AreOfSomeText (bs : List Block) : Type 0 where
  pub text : List ℕ
  pub cut : AreBlocksOf bs text
  pub limit : length text ≤ MAX_LEN

-- what an index of these blocks shows
abbrev pub shown : List Block → Bool → Counts → Indexed
shown bs lacks_end mark = record { pieces = map block_counts bs; lacks_end = lacks_end; mark = mark }

-- a block that begins at a place or before it, or the end of all
pub record BeginsBy (bs : List Block) (block : Found) (place : ℕ) : Type 0 where
  pub modest : AreModest bs
  pub found : IsFound block_counts bs Bytes place block

-- some counts are those of the first bytes of a text
abbrev pub IsMark : List ℕ → Counts → Type 0
IsMark x c = c ≡ counts_of (take c.bytes x)

-- they are so of each text of which so much is known, and of no more than `most` bytes
pub record IsMarkWhere (known : List ℕ → Type 0) (most : ℕ) (mark : Counts) : Type 0 where
  pub modest : IsModest mark
  pub from : mark.bytes ≤ most
  pub marked : (x : List ℕ) → known x → IsMark x mark

-- some bytes, but no more than so many
pub record IsSize (size most : ℕ) : Type 0 where
  pub some : 0 < size
  pub few : size ≤ most

-- the counts of a block of the bytes between two places
pub record IsNextBlock (x : List ℕ) (place to : ℕ) (c : Counts) : Type 0 where
  pub counts : c ≡ counts_of (take c.bytes (drop place x))
  pub some : 0 < c.bytes
  pub inside : place + c.bytes ≤ to
  pub few : c.bytes < 65536
