use Rattle.std.specs.Prelude.{◌≡◌, ◌||◌}
use Rattle.cord_script.proofs.Common.{drop, each, is_digit, is_letter}
use Rattle.cord_script.proofs.names.all_inner.Given as goal

abbrev pub invariant-loop-c : goal.invariant-loop-c
invariant-loop-c l = each (λ c. is_letter c || is_digit c) l.word ≡ each (λ c. is_letter c || is_digit c) (drop l.c-index l.word)
