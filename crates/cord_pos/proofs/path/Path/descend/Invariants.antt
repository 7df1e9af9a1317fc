use Rattle.cord_pos.proofs.Common.{IsSound, MAX_LEN, array_vec_len, below, depth_of, len_of, level, min, node_of, part_at, places, ◌++◌, ◌+◌, ◌-◌}
use Rattle.cord_pos.proofs.Common.{◌<◌, ◌^◌, ◌≡◌, ◌≤◌}
use Rattle.cord_pos.specs.declared.path.TheConstants.{PATH_LEN}
use Rattle.cord_pos.proofs.path.Path.descend.Given as goal

-- what is left below the node completes the way, the visits and the range of the part
abbrev pub invariant-loop-side : goal.invariant-loop-side
invariant-loop-side l = record {
  sound : IsSound (node_of l.node);
  inside : l.index < len_of (node_of l.node);
  fits : l.start + len_of (node_of l.node) ≤ MAX_LEN;
  room : array_vec_len l.self.stops + depth_of (node_of l.node) ≤ PATH_LEN;
  places : places l.self.stops.items ++ below (node_of l.node) l.start l.index ≡ places l.fn.self.stops.items
      ++ below (node_of l.fn.top) l.fn.start l.fn.index;
  counted : l.self.visits.count ≤ 2 ^ 64 - 1;
  visits : min (l.self.visits.count + level (node_of l.node) l.index) (2 ^ 64 - 1)
      ≡ min (l.fn.self.visits.count + level (node_of l.fn.top) l.fn.index) (2 ^ 64 - 1);
  part : part_at (node_of l.node) l.start l.index ≡ part_at (node_of l.fn.top) l.fn.start l.fn.index;
}

abbrev pub decreases-loop-side : goal.decreases-loop-side
decreases-loop-side l = depth_of (node_of l.node)
