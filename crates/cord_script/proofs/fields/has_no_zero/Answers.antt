use Rattle.std.specs.Prelude.{◌≡◌, ◌&&◌, ◌||◌, ◌∷◌, ◌==◌}
use Rattle.std.specs.List.{list_any}
use Rattle.cord_script.proofs.Common.{◌∙◌, ap, ℕ, List, [], Bool, true, false, refl, each, not}
use Rattle.cord_script.proofs.fields.has_no_zero.Goals as goal

first_is : (b rest all : Bool) → not rest ≡ all → not (b || rest) ≡ (not b && all)
first_is true rest all e = refl
first_is false rest all e = e

none_is : (bytes : List ℕ) → not (list_any (λ c. c == 0) bytes) ≡ each (λ c. not (c == 0)) bytes
none_is [] = refl
none_is (c ∷ cs) = first_is (c == 0) (list_any (λ d. d == 0) cs) (each (λ d. not (d == 0)) cs) (none_is cs)

pub returns : goal.returns
returns c = ap not c.contains.ensures.value ∙ none_is c.args.bytes.now
