-- The parts of a text.
use Rattle.std.specs.Prelude.{◌≡◌, ℕ, ◌⊎◌, List}
use Rattle.std.specs.Coded.{Coded, code_by, coded_ℕ, coded_list, coded×, coded⊎}
use mathlib.Core.Logic.{inl, inr}
use mathlib.Core.Path.{refl}

-- bytes with the start and the length of a range of them; a byte and how often; a source's number with the start
-- and the length of a range of it
pub data Part : Type 0 where
  leaf_part : List ℕ → ℕ → ℕ → Part
  run_part : ℕ → ℕ → Part
  func_part : ℕ → ℕ → ℕ → Part

abbrev pub Numbers : Type 0
Numbers = (List ℕ × (ℕ × ℕ)) ⊎ ((ℕ × ℕ) ⊎ (ℕ × (ℕ × ℕ)))

abbrev pub numbers : Part → Numbers
numbers (leaf_part bytes start len) = inl (bytes, (start, len))
numbers (run_part byte len) = inr (inl (byte, len))
numbers (func_part id start len) = inr (inr (id, (start, len)))

abbrev pub part_of : Numbers → Part
part_of (inl p) = leaf_part p.0 p.1.0 p.1.1
part_of (inr (inl p)) = run_part p.0 p.1
part_of (inr (inr p)) = func_part p.0 p.1.0 p.1.1

pub part-numbers : (x : Part) → part_of (numbers x) ≡ x
part-numbers (leaf_part bytes start len) = refl
part-numbers (run_part byte len) = refl
part-numbers (func_part id start len) = refl

abbrev pub coded_numbers : Coded Numbers
coded_numbers = coded⊎ (coded× (coded_list coded_ℕ) (coded× coded_ℕ coded_ℕ))
    (coded⊎ (coded× coded_ℕ coded_ℕ) (coded× coded_ℕ (coded× coded_ℕ coded_ℕ)))

-- how the logic stores a list of parts
abbrev pub coded_parts : Coded (List Part)
coded_parts = coded_list (code_by Numbers coded_numbers numbers part_of part-numbers)
