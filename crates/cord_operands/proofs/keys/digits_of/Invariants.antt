use Rattle.std.proofs.Common.{◌≡◌, ◌^◌, ◌<◌, drop}
use Rattle.cord_operands.specs.Keys.{exact_from}
use Rattle.cord_operands.proofs.keys.digits_of.Given as goal

abbrev pub invariant-loop-byte : goal.invariant-loop-byte
invariant-loop-byte l = (exact_from l.digits (drop l.byte-index l.name) ≡ exact_from 0 l.name) × (l.digits < 256 ^ l.byte-index)
