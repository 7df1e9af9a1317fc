-- What a chain is once a loan of its newest block is over.
use base.Fml.{Fml}
use denote.Ref.{MutBor}
use denote.Follow.{follows}
use Rattle.cord_raw.specs.declared.block.Block.{Block}
use Rattle.cord_raw.specs.declared.chain.Chain.{Chain}
use Rattle.cord_raw.specs.contracts.block.Block as block
use Rattle.cord_raw.specs.contracts.chain.Chain as chain

-- the chain c with b as its newest block
abbrev pub with_newest : Chain → Block → Chain
with_newest c b = record c { newest = b }

-- the newest block is the one that was last written through the loan
abbrev pub newest_follows : MutBor Chain → MutBor Block → Fml
newest_follows c loan = follows chain.the_row block.the_row c.ghost_name loan.ghost_name (with_newest c.now)
