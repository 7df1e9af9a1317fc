use Rattle.std.proofs.Common.{◌+◌, ◌*◌}
use Rattle.std.specs.Prelude.{max}
use Rattle.cord_node.specs.Tree.{depth_of}
use Rattle.cord_node.proofs.edit.+splice_node.Given as goal

abbrev pub decreases-splice_node : goal.decreases-splice_node
decreases-splice_node l = 4 * depth_of l.node.now.value + 2

abbrev pub decreases-splice_in_place : goal.decreases-splice_in_place
decreases-splice_in_place l = 4 * depth_of l.node.now + 1

abbrev pub decreases-splice_shared : goal.decreases-splice_shared
decreases-splice_shared l = 4 * depth_of l.node.now.value + 1

abbrev pub decreases-splice_sides : goal.decreases-splice_sides
decreases-splice_sides l = 4 * max (depth_of l.left.now.value) (depth_of l.right.now.value) + 4

abbrev pub decreases-splice_seam : goal.decreases-splice_seam
decreases-splice_seam l = 4 * max (depth_of l.left.now.value) (depth_of l.right.now.value) + 3

abbrev pub decreases-splice_both : goal.decreases-splice_both
decreases-splice_both l = 4 * max (depth_of l.left.now.value) (depth_of l.right.now.value) + 3
