-- Where the blocks of a chain lead.
use Rattle.std.specs.Prelude.{List, [], ◌∷◌}
use denote.RawPtr.{Ptr}
use Rattle.cord_raw.specs.declared.block.Block.{Block}

-- where the pointer of the last of these blocks leads, the first of which lies at p; without blocks, p
abbrev pub place_after : Ptr → List Block → Ptr
place_after p [] = p
place_after p (b ∷ bs) = place_after b.next bs

-- the block b with its pointer leading to p
abbrev pub pointing : Block → Ptr → Block
pointing b p = record { next = p; len = b.len; bytes = b.bytes }
