use Rattle.std.proofs.Common.{◌≡◌, drop}
use Rattle.cord.specs.Hashes.{fnv1a_from}
use Rattle.cord.proofs.hash.hash_bytes.Given as goal

-- the hash after what is left is that after all
abbrev pub invariant-loop-byte : goal.invariant-loop-byte
invariant-loop-byte l = fnv1a_from l.state (drop l.byte-index l.bytes) ≡ fnv1a_from l.before l.bytes
