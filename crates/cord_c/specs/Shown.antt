-- Which bytes are shown of a chunk.
use Rattle.std.specs.Prelude.{ℕ, List, length, ◌==◌, if◌then◌else◌}
use Rattle.cord_c.specs.declared.loan.Loan.{Loan}

-- those that are lent, where any are, else those that are copied
abbrev pub shown : Loan → List ℕ → List ℕ
shown loan room = if length loan.lender.items == 0 then room else loan.lender.items
