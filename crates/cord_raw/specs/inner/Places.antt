-- Places in a chain, and the blocks that stand there.
use Rattle.std.specs.Prelude.{◌≡◌, ℕ, ◌≤◌, length, take, slice_index_or}
use Rattle.cord_raw.specs.declared.block.Block.{Block}
use Rattle.cord_raw.specs.declared.chain.Chain.{Chain}
use Rattle.cord_raw.specs.declared.chain.Place.{Place}
use Rattle.cord_raw.specs.inner.Blocks.{place_after}
use Rattle.cord_raw.specs.inner.Texts.{blocks_of}

-- the pointer of p leads to the block of the chain with p.index blocks before it
abbrev pub IsPlaceOf : Chain → Place → Type 0
IsPlaceOf c p = (p.at ≡ place_after c.first (take p.index c.older)) × (p.index ≤ length c.older)

-- the block at a place
abbrev pub block_at : Chain → ℕ → Block
block_at c i = slice_index_or (blocks_of c) i c.newest
