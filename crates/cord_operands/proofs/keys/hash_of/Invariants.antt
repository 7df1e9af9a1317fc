use Rattle.std.proofs.Common.{◌≡◌, ◌^◌, ◌<◌, drop}
use Rattle.cord_operands.specs.Keys.{hash_from}
use Rattle.cord_operands.proofs.keys.hash_of.Given as goal

abbrev pub invariant-loop-byte : goal.invariant-loop-byte
invariant-loop-byte l = (hash_from l.hash (drop l.byte-index l.name) ≡ hash_from 0 l.name) × (l.hash < 2 ^ 56)
