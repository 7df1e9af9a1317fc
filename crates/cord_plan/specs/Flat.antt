-- Expressions in which no `cat` is a member of a `cat`, also inside a sub.
use Rattle.cord_plan.specs.Exprs.{Expr, name, run, cat, sub, Exprs, nothing, member}
use Rattle.cord_plan.specs.Planned.{Made, Joined, Operation, Build, Measure, Write, Keep}

abbrev mutual
  pub IsFlat : Expr → Type 0
  IsFlat (name x) = Unit {0}
  IsFlat (run c n) = Unit {0}
  IsFlat (cat es) = AreMembers es
  IsFlat (sub e i n) = IsFlat e

  pub AreMembers : Exprs → Type 0
  AreMembers nothing = Unit {0}
  AreMembers (member (name x) es) = AreMembers es
  AreMembers (member (run c n) es) = AreMembers es
  AreMembers (member (cat fs) es) = ⊥
  AreMembers (member (sub e i n) es) = IsFlat e × AreMembers es

abbrev pub IsFlatMade : Made → Type 0
IsFlatMade (Joined e) = IsFlat e
IsFlatMade _ = Unit {0}

-- the expression of an operation, where it has one, is flat
abbrev pub IsFlatOperation : Operation → Type 0
IsFlatOperation (Build line x made) = IsFlatMade made
IsFlatOperation (Measure line x made) = IsFlatMade made
IsFlatOperation (Write line e) = IsFlat e
IsFlatOperation (Keep l) = Unit {0}
