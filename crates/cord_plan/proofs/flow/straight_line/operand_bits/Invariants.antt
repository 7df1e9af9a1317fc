use Rattle.cord_plan.proofs.Common.{List, ℕ, is_some, names_of, AreNumbers, entry_of, Numbering}
use Rattle.cord_plan.proofs.StraightLine.{BitsTo}
use Rattle.cord_plan.proofs.flow.straight_line.operand_bits.Given as goal

abbrev pub invariant-loop-index : goal.invariant-loop-index
invariant-loop-index l = (t : Numbering) (xs : List (List ℕ)) → AreNumbers (names_of t) xs l.numbers →
    BitsTo (λ x. is_some (entry_of t l.next_reads x)) xs l.index l.bits
