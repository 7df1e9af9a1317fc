use Rattle.cord_search.proofs.Common.{take, ◌-◌, ◌≡◌, ◌≤◌}
use Rattle.cord_search.proofs.slices.common_prefix.Given as goal

-- the first `done` bytes are the same
abbrev pub invariant-loop-done : goal.invariant-loop-done
invariant-loop-done l = record { in_range : l.done ≤ l.both; same : take l.done l.left ≡ take l.done l.right }

abbrev pub decreases-loop-done : goal.decreases-loop-done
decreases-loop-done l = l.both - l.done
