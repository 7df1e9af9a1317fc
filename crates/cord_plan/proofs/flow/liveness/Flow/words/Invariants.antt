use Rattle.std.specs.Prelude.{◌≡◌, ◌≤◌, ◌+◌, ◌-◌}
use Rattle.cord_plan.proofs.Common.{List, ℕ, length, map, take, vec_len, vec_capacity, assigns, reads, IsBit, column}
use Rattle.cord_plan.proofs.flow.liveness.Flow.words.Given as goal

abbrev pub invariant-loop-place : goal.invariant-loop-place
invariant-loop-place l = record {
  readers : length l.read.items ≡ l.place;
  setters : length l.assigned.items ≡ l.place;
  room_read : vec_len l.read + (length l.self.statements.now - l.place) ≤ vec_capacity l.read;
  room_assigned : vec_len l.assigned + (length l.self.statements.now - l.place) ≤ vec_capacity l.assigned;
  read : (x : List ℕ) (i : ℕ) → IsBit l.self.numbering.now l.self.group x i →
      column l.read.items i ≡ map (λ m. reads m x) (take l.place l.self.statements.now);
  assigned : (x : List ℕ) (i : ℕ) → IsBit l.self.numbering.now l.self.group x i →
      column l.assigned.items i ≡ map (λ m. assigns m x) (take l.place l.self.statements.now);
}
