use Rattle.std.proofs.Common.{◌≡◌, ℕ, ◌+◌, ◌<◌}
use Rattle.std.specs.Prelude.{slice_get}
use Rattle.cord.proofs.text.Text.stands_at.Given as goal

-- each byte before the offset stands at its place
abbrev pub invariant-loop-offset : goal.invariant-loop-offset
invariant-loop-offset l = (k : ℕ) → k < l.offset → slice_get l.self (l.place + k) ≡ slice_get l.bytes k
