use Rattle.std.proofs.Common.{◌≡◌, ◌+◌, ◌<◌, ◌++◌, length}
use Rattle.cord_raw.specs.Texts.{IsFilled, chain_text, chain_len}
use Rattle.cord_raw.proofs.chain.Chain.holding.Given as goal

-- the chain has the bytes before the rest, and its newest block is empty
abbrev pub invariant-loop-rest : goal.invariant-loop-rest
invariant-loop-rest l = (chain_text l.chain ++ l.rest ≡ l.bytes) × IsFilled l.chain × (l.chain.newest.len ≡ 0) ×
    (chain_len l.chain + length l.rest ≡ length l.bytes) × (0 < length l.rest)

abbrev pub decreases-loop-rest : goal.decreases-loop-rest
decreases-loop-rest l = length l.rest
