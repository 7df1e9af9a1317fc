-- Chunks: what a text has in one part of its tree, of which none is empty.
use Rattle.std.specs.Prelude.{◌≡◌, ◌<◌, ℕ, List, [], ◌++◌, length, map, reverse, replicate, drop, Option, MatchOption}
use Rattle.std.specs.Prelude.{true}
use Rattle.std.specs.List.{concat}
use Rattle.std.specs.Iterator.Runs.{EachRunFrom}
use Rattle.cord.specs.declared.chunks.Chunk.{Chunk}
use Rattle.cord.specs.declared.chunks.Chunk.TheVariants.{Bytes, Run}

-- the bytes of a chunk
abbrev pub chunk_bytes : Chunk → List ℕ
chunk_bytes (Bytes bytes) = bytes.now
chunk_bytes (Run byte count) = replicate count byte

-- a chunk with which the bytes begin, and nothing where there is none
abbrev pub IsNextChunk : List ℕ → Option Chunk → Type 0
IsNextChunk left answer = MatchOption answer (left ≡ []) (λ chunk. (0 < length (chunk_bytes chunk)) ×
    (left ≡ chunk_bytes chunk ++ drop (length (chunk_bytes chunk)) left))

-- a call that gave a chunk with which the bytes that were left begin, or nothing where none was left
abbrev pub GivesChunk : List ℕ → Option Chunk → List ℕ → Type 0
GivesChunk old answer new = MatchOption answer ((old ≡ []) × (new ≡ [])) (λ chunk. (0 < length (chunk_bytes chunk)) ×
    (old ≡ chunk_bytes chunk ++ new))

-- the chunks that come up to the end are the bytes, one after another
abbrev pub JoinTo : List ℕ → List ℕ → Type 0
JoinTo left x = EachRunFrom GivesChunk left (λ p. p.whole ≡ true → concat (map chunk_bytes p.items) ≡ x)

-- a call that gave a chunk with which the bytes that were left end, or nothing where none was left
abbrev pub GivesChunkBefore : List ℕ → Option Chunk → List ℕ → Type 0
GivesChunkBefore old answer new = MatchOption answer ((old ≡ []) × (new ≡ [])) (λ chunk. (0 < length (chunk_bytes chunk)) ×
    (old ≡ new ++ chunk_bytes chunk))

-- the chunks that come up to the end are the bytes, the last one first
abbrev pub JoinBackTo : List ℕ → List ℕ → Type 0
JoinBackTo left x = EachRunFrom GivesChunkBefore left (λ p. p.whole ≡ true → concat (reverse (map chunk_bytes p.items)) ≡ x)
