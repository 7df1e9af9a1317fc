-- What searches and comparisons answer, as C is reported.
use Rattle.std.specs.Prelude.{ℕ, ℤ, pos, negsuc, Option, Some, None}
use Rattle.core.specs.declared.cmp.Ordering.{Ordering}
use Rattle.core.specs.declared.cmp.Ordering.TheVariants.{Less, Equal, Greater}
use Rattle.cord_c.specs.declared.code.TheConstants.{NOT_FOUND}

-- the place that was found, or the one that stands for none
abbrev pub place_or_none : Option ℕ → ℕ
place_or_none None = NOT_FOUND
place_or_none (Some place) = place

-- the sign of an order
abbrev pub sign_of : Ordering → ℤ
sign_of Less = negsuc 0
sign_of Equal = pos 0
sign_of Greater = pos 1
