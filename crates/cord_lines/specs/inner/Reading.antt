-- How the bytes are read that a text has from a place on.
use Rattle.std.specs.Prelude.{◌≡◌, ℕ, ◌+◌, ◌<◌, ◌≤◌, ◌++◌, List, [], length, take, drop, Option, MatchOption}
use Rattle.cord.specs.declared.chunks.Chunk.{Chunk}
use Rattle.cord.specs.Chunks.{chunk_bytes}
use Rattle.cord_lines.specs.Counts.{counts_of}
use Rattle.cord_lines.specs.Lines.{after_ends}
use Rattle.cord_lines.specs.declared.around.Around.{Around}
use Rattle.cord_lines.specs.declared.counting.Counts.{Counts}
use Rattle.cord_lines.specs.declared.reading.Cut.{Cut}
use Rattle.cord_lines.specs.declared.reading.Search.{Search}
use Rattle.cord_lines.specs.declared.reading.Search.TheVariants.{Found, Missing}

-- a text has the bytes from one place up to another
pub record IsRange (x : List ℕ) (from to : ℕ) : Type 0 where
  pub ordered : from ≤ to
  pub inside : to ≤ length x

-- a chunk, which may have no bytes, with which some others begin
abbrev pub IsAhead : List ℕ → Chunk → Type 0
IsAhead all chunk = all ≡ chunk_bytes chunk ++ drop (length (chunk_bytes chunk)) all

-- a chunk in two, of which the first one has some bytes, but no more than so many
pub record IsInTwo (chunk : Chunk) (most : ℕ) (cut : Cut) : Type 0 where
  pub parts : chunk_bytes chunk ≡ chunk_bytes cut.prefix ++ chunk_bytes cut.back
  pub some : 0 < length (chunk_bytes cut.prefix)
  pub few : length (chunk_bytes cut.prefix) ≤ most

-- some first bytes, and what is at hand after them
pub record IsCut (all : List ℕ) (most : ℕ) (cut : Cut) : Type 0 where
  pub some : 0 < length (chunk_bytes cut.prefix)
  pub few : length (chunk_bytes cut.prefix) ≤ most
  pub prefix : IsAhead all cut.prefix
  pub back : IsAhead (drop (length (chunk_bytes cut.prefix)) all) cut.back

-- such a cut, or nothing of no bytes
abbrev pub GivesCut : List ℕ → ℕ → Option Cut → Type 0
GivesCut all most answer = MatchOption answer (all ≡ []) (λ cut. IsCut all most cut)

-- a text has so many bytes from a place on, of which some are at hand
pub record CanCount (x : List ℕ) (place least most : ℕ) (ahead : Chunk) : Type 0 where
  pub ordered : least ≤ most
  pub inside : place + most ≤ length x
  pub held : IsAhead (drop place x) ahead

-- so many of them have these counts, and some of the next ones are at hand
pub record IsCounted (x : List ℕ) (place least most : ℕ) (c : Counts) (ahead : Chunk) : Type 0 where
  pub enough : least ≤ c.bytes
  pub few : c.bytes ≤ most
  pub counts : c ≡ counts_of (take c.bytes (drop place x))
  pub held : IsAhead (drop (place + c.bytes) x) ahead

-- the counts of what is before a place, where so much is known, and those of the next bytes
pub record IsAround (known : Type 0) (x : List ℕ) (place count : ℕ) (around : Around) : Type 0 where
  pub before : known → around.before ≡ counts_of (take place x)
  pub next : around.next ≡ counts_of (take count (drop place x))

-- what was found of the n-th end of a line in some bytes, whatever others follow
abbrev pub IsSearch : List ℕ → ℕ → Search → Type 0
IsSearch x n (Found place) = (place ≤ length x) × ((y : List ℕ) → after_ends n (x ++ y) ≡ place)
IsSearch x n (Missing more) = (y : List ℕ) → after_ends n (x ++ y) ≡ length x + after_ends more y
