use Rattle.std.specs.Prelude.{◌≡◌, ◌≤◌, ◌+◌, ◌-◌}
use Rattle.cord_plan.proofs.Common.{map, take, length, vec_len, vec_capacity, choice_view}
use Rattle.cord_plan.specs.Inlined as plain
use Rattle.cord_plan.proofs.planner.joining.all_named.Given as goal

abbrev pub invariant-loop-name : goal.invariant-loop-name
invariant-loop-name l = record {
  so_far : map choice_view l.choices.items ≡ map (λ x. plain.named x) (take l.name-index l.names);
  room : vec_len l.choices + (length l.names - l.name-index) ≤ vec_capacity l.choices;
}
