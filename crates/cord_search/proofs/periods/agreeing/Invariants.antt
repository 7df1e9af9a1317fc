use Rattle.cord_search.proofs.Common.{take, ◌≡◌}
use Rattle.cord_search.proofs.periods.agreeing.Given as goal

-- at all places before, the bytes are the same
abbrev pub invariant-loop-place : goal.invariant-loop-place
invariant-loop-place l = take l.place l.left ≡ take l.place l.right
