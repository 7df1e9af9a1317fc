-- The blocks of a chain.
use Rattle.std.specs.Prelude.{List, [], ◌∷◌, ◌++◌}
use Rattle.cord_raw.specs.declared.block.Block.{Block}
use Rattle.cord_raw.specs.declared.chain.Chain.{Chain}

-- the blocks of a chain, oldest first
abbrev pub blocks_of : Chain → List Block
blocks_of c = c.older ++ c.newest ∷ []
