use Rattle.cord_run.proofs.Common.{ℕ, drop, HasNoEntry, IsEntryAt, ◌+◌}
use Rattle.cord_run.proofs.store.slots.find_slot.Given as goal

-- the entries passed don't have the name: what the rest says of it, all of them say
abbrev pub invariant-loop-place : goal.invariant-loop-place
invariant-loop-place l = record {
  place : (n : ℕ) → IsEntryAt (drop l.place l.entries) l.name n → IsEntryAt l.entries l.name (l.place + n);
  absent : HasNoEntry (drop l.place l.entries) l.name → HasNoEntry l.entries l.name;
}
