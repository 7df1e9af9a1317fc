use Rattle.std.proofs.Common.{◌+◌, ◌-◌, ◌∙◌, ℕ, ap, arith}
use Rattle.std.specs.Prelude.{replicate}
use Rattle.cord.specs.Hashes.{fnv1a_from}
use Rattle.cord.proofs.Hashing.{from_run}
use Rattle.cord.proofs.hash.hash_run.Goals as goal

pub loop-done-preserved : goal.loop-done-preserved
loop-done-preserved c =
    let state = c.loop-done.state in
    let done = c.loop-done._done in
    ap (λ (h : ℕ). fnv1a_from h (replicate (c.args.count - (done + 1)) c.args.byte)) c.hash_byte-state.ensures
    ∙ from_run state c.args.byte c.args.count done (omega arith) ∙ c.loop-done.invariant
