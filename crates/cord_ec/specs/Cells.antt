-- The code by which a cell is stored.
use Rattle.std.specs.Prelude.{◌≡◌, ◌⊎◌, ℕ}
use mathlib.Core.Path.{refl}
use mathlib.Core.Logic.{inl, inr}
use Rattle.std.specs.Coded.{Coded, code_by, coded_ℕ, coded×, coded⊎}
use Rattle.cord_node.specs.Tree.{Cell, known, held_by}

-- a byte that is known, or a source's id with an index
abbrev kind_of : Cell → ℕ ⊎ (ℕ × ℕ)
kind_of (known b) = inl b
kind_of (held_by id i) = inr (id, i)

abbrev cell_of : ℕ ⊎ (ℕ × ℕ) → Cell
cell_of (inl b) = known b
cell_of (inr p) = held_by p.0 p.1

pub cell_of-kind_of : (x : Cell) → cell_of (kind_of x) ≡ x
cell_of-kind_of (known b) = refl
cell_of-kind_of (held_by id i) = refl

abbrev pub coded_cell : Coded Cell
coded_cell = code_by (ℕ ⊎ (ℕ × ℕ)) (coded⊎ coded_ℕ (coded× coded_ℕ coded_ℕ)) kind_of cell_of cell_of-kind_of
