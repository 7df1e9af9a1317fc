-- What a chain of blocks owns, and what a `&` to it lends.
use Rattle.std.specs.Prelude.{List, [], ◌∷◌}
use base.Fml.{Fml, Lft, ftrue, fsep}
use denote.RawPtr.{Ptr}
use denote.Sharing.{nothing, beside}
use denote.Struct.Lending.{lent_at}
use Rattle.std.specs.Box.Ownership.{box_owns}
use Rattle.std.specs.declared.alloc.Global.{Global}
use Rattle.std.specs.contracts.impls.GlobalAllocator.TheImpl.{ghosts}
use mir.Syntax.{Ty}
use Rattle.cord_raw.specs.declared.block.Block.{Block}
use Rattle.cord_raw.specs.contracts.block.Block.{the_row}

-- the heap's handle, which is one value
abbrev pub the_heap : Global
the_heap = record { memory = record { seal = tt } }

-- the right to free what a pointer leads to
abbrev pub frees : Ty → Ptr → Fml
frees = ghosts.dealloc_token the_heap

-- the block b at p, and the right to free it
abbrev pub block_owns : Ptr → Block → Fml
block_owns p b = box_owns frees the_row p b

-- blocks, the first of which lies at p, and each other one where the one before it leads
abbrev pub links : Ptr → List Block → Fml
links p [] = ftrue
links p (b ∷ bs) = fsep (block_owns p b) (links b.next bs)

-- the older blocks, and the newest one at its place
abbrev pub chain_owns : Ptr → List Block → Ptr → Block → Fml
chain_owns p older last newest = fsep (links p older) (block_owns last newest)

-- what a `&` holds of blocks
abbrev pub links_lent : Ptr → List Block → Lft → Fml
links_lent p [] = nothing
links_lent p (b ∷ bs) = beside (lent_at the_row p b) (links_lent b.next bs)

-- and of a whole chain
abbrev pub chain_lent : Ptr → List Block → Ptr → Block → Lft → Fml
chain_lent p older last newest = beside (links_lent p older) (lent_at the_row last newest)
