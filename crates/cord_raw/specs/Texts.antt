-- The texts of blocks and chains.
use Rattle.std.specs.Prelude.{◌≡◌, ℕ, ◌+◌, ◌*◌, ◌≤◌, List, [], ◌∷◌, ◌++◌, length, take}
use Rattle.cord_raw.specs.declared.block.TheConstants.{ROOM}
use Rattle.cord_raw.specs.declared.block.Block.{Block}
use Rattle.cord_raw.specs.declared.chain.Chain.{Chain}

-- the bytes that a block holds
abbrev pub text_of : Block → List ℕ
text_of b = take b.len b.bytes

-- the text of blocks, one after another
abbrev pub text : List Block → List ℕ
text [] = []
text (b ∷ bs) = text_of b ++ text bs

-- no block has room left
abbrev pub AreFull : List Block → Type 0
AreFull [] = Unit {0}
AreFull (b ∷ bs) = (length (text_of b) ≡ ROOM) × AreFull bs

-- the text of a chain
abbrev pub chain_text : Chain → List ℕ
chain_text c = text c.older ++ text_of c.newest

-- its length, where its older blocks are full
abbrev pub chain_len : Chain → ℕ
chain_len c = ROOM * length c.older + c.newest.len

-- the older blocks are full, and the newest one holds as many bytes as it says
abbrev pub IsFilled : Chain → Type 0
IsFilled c = AreFull c.older × (length (text_of c.newest) ≡ c.newest.len) × (c.newest.len ≤ ROOM)
