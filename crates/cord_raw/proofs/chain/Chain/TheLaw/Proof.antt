-- A `&` to a chain is made where a `&` to each of its blocks is.
use contract.BorrowLft.{⊑_static}
use denote.Param.Shared.{copy_shared}
use denote.Struct.Field.{RawPtr-field, usize-field}
use denote.Struct.Laws.{RawPtr-copy, usize-copy}
use denote.Struct.Lending.{of_Lends}
use Rattle.cord_raw.specs.contracts.chain.Chain as chain
use Rattle.cord_raw.proofs.Links.{chain_lent_laws, Lends-chain}
use Rattle.cord_raw.proofs.chain.Chain.TheLaw.Statement.{statement}

pub shares : statement
shares =
    of_Lends chain.struct chain.the_codes chain.the_heap chain.the_lent
    (λ d p. chain_lent_laws d.first d.older d.last d.newest)
    (copy_shared RawPtr-field RawPtr-copy, (copy_shared RawPtr-field RawPtr-copy, (copy_shared usize-field usize-copy, tt)))
    (λ M 𝓤 𝓛 d p. Lends-chain 𝓛 chain.the_row.lives (⊑_static chain.the_row.lives) d.first d.older d.last d.newest)
