use Rattle.std.specs.Prelude.{◌≡◌, ◌≤◌, ◌+◌, ◌-◌}
use Rattle.cord_plan.proofs.Common.{length, vec_len, vec_capacity, reports, map, IsRecent, AreLonger, operation_view, table_view}
use Rattle.cord_plan.proofs.Begun.{IsBegun}
use Rattle.cord_plan.specs.inner.Choices.{IsKnown}
use Rattle.cord_plan.proofs.planner.expressions.planned_operations.Given as goal

-- the operations of the lines so far, with room for those to come, and what was noted of those lines
abbrev pub invariant-loop-place : goal.invariant-loop-place
invariant-loop-place l = record {
  begun : IsBegun l.statements (reports l.later) l.place (map operation_view l.operations.items) l.taken.items;
  room : vec_len l.operations + (length l.statements - l.place) ≤ vec_capacity l.operations;
  made_listed : vec_len l.operations ≡ l.place;
  listed : vec_len l.extending ≡ l.place;
  extending_room : vec_len l.extending + (length l.statements - l.place) ≤ vec_capacity l.extending;
  longer : AreLonger l.statements (reports l.later) l.extending.items;
  later : l.recent.later.now ≡ l.later;
  recent : IsRecent l.statements l.place l.recent;
  known : IsKnown l.statements l.place (table_view l.operations.items) l.known;
}
