use Rattle.std.proofs.Common.{◌≡◌, ◌-◌}
use Rattle.std.specs.Prelude.{replicate}
use Rattle.cord.specs.Hashes.{fnv1a_from}
use Rattle.cord.proofs.hash.hash_run.Given as goal

-- the hash after what is left is that after all
abbrev pub invariant-loop-done : goal.invariant-loop-done
invariant-loop-done l = fnv1a_from l.state (replicate (l.count - l._done) l.byte) ≡ fnv1a_from l.before (replicate l.count l.byte)
