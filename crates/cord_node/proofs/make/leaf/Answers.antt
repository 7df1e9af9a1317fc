use Rattle.std.proofs.Common.{refl, sym, subst, arith, rules}
use Rattle.cord_node.specs.Tree.{IsSound}
use Rattle.cord_node.proofs.make.leaf.Goals as goal

pub leaf_range-requires-clause-not_empty : goal.leaf_range-requires-clause-not_empty
leaf_range-requires-clause-not_empty c = omega arith

pub returns-clause-form : goal.returns-clause-form
returns-clause-form c = search rules

pub returns-clause-sound : goal.returns-clause-sound
returns-clause-sound c = subst IsSound (sym (returns-clause-form c)) (c.requires.not_empty, omega arith, c.requires.within_limit, refl)
