-- What a line that assigns a name preserves.
use Rattle.std.specs.Prelude.{◌≡◌, ◌&&◌, ◌∷◌}
use Rattle.cord_plan.proofs.Common.{ℕ, Bool, List, [], Option, Some, refl, ap, ◌∙◌, not, bytes_eq, Statement, is_this_name}
use Rattle.cord_plan.proofs.Common.{target_of, preserves, lacks}

pub preserves_lacking : (l : Statement) (t : List ℕ) → target_of l ≡ Some t → (xs : List (List ℕ)) → preserves (Some l) xs ≡ lacks xs t
preserves_lacking l t some [] = refl
preserves_lacking l t some (x ∷ xs) =
    ap (λ (o : Option (List ℕ)). not (is_this_name o x) && preserves (Some l) xs) some
    ∙ ap (λ (v : Bool). not (bytes_eq x t) && v) (preserves_lacking l t some xs)
