-- What contracts see of an extensible cord, and when its parts come from those that it was given.
use Rattle.std.specs.Prelude.{ℕ, ◌+◌, ◌*◌, ◌≤◌, ◌⊎◌, List, [], ◌∷◌, length, ⊤, refl}
use Rattle.std.specs.Coded.{Coded, code_by, coded_list, coded×}
use Rattle.cord_mark.specs.Part.{coded_parts}
use Rattle.cord_node.specs.Tree.{Cell}
use Rattle.cord_node.specs.PartsFrom.{Part, leaf_part, run_part, func_part, IsRangeOf}
use Rattle.cord_raw.specs.declared.buffer.TheConstants.RawBuf.{CAP}
use Rattle.cord_ec.specs.Cells.{coded_cell}

-- a text that grows: its cells, and the parts that they are made of
pub record Growth : Type 0 where
  pub text : List Cell
  pub parts : List Part

-- how the logic stores one
abbrev pub coded_growth : Coded Growth
coded_growth = code_by (List Cell × List Part) (coded× (coded_list coded_cell) coded_parts) (λ g. (g.text, g.parts))
    (λ p. record { text = p.0; parts = p.1 }) (λ _. refl)

-- bytes as one leaf: no part where there are none
abbrev pub leaf_parts : List ℕ → List Part
leaf_parts [] = []
leaf_parts (b ∷ bs) = leaf_part (b ∷ bs) 0 (length (b ∷ bs)) ∷ []

-- how many bytes so many leaves hold that a buffer was made into
abbrev pub leaf_bytes : ℕ → ℕ
leaf_bytes k = k * CAP

-- a leaf that a buffer was made into
abbrev pub IsGathered : Part → Type 0
IsGathered (leaf_part bytes start len) = len ≤ CAP
IsGathered (run_part byte len) = ⊥
IsGathered (func_part id start len) = ⊥

-- the part is one of a call's own, or a range of one of these
abbrev pub IsFromOr : (Part → Type 0) → Part → List Part → Type 0
IsFromOr own p [] = own p
IsFromOr own p (q ∷ qs) = IsRangeOf p q ⊎ IsFromOr own p qs

-- each part is one of a call's own, or a range of one of these
abbrev pub AreFromOr : (Part → Type 0) → List Part → List Part → Type 0
AreFromOr own [] qs = ⊤
AreFromOr own (p ∷ ps) qs = IsFromOr own p qs × AreFromOr own ps qs

-- at most so many parts more than before, and each from there or one of a call's own
pub record MadeOf (own : Part → Type 0) (more : ℕ) (old new : List Part) : Type 0 where
  pub no_more : length new ≤ length old + more
  pub from_there : AreFromOr own new old

-- the same where a call's own are leaves that a buffer was made into
abbrev pub Gathered : ℕ → List Part → List Part → Type 0
Gathered more old new = MadeOf IsGathered more old new
