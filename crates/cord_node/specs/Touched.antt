-- How many parts a range of a text touches, and how many parts an edit leaves.
use Rattle.std.specs.Prelude.{ℕ, ◌+◌, ◌-◌, ◌≤◌, min, List, [], ◌∷◌, length}
use Rattle.cord_node.specs.PartsFrom.{Part, leaf_part, run_part, func_part}

-- how long the text of a part is
abbrev pub part_len : Part → ℕ
part_len (leaf_part bytes start len) = len
part_len (run_part byte len) = len
part_len (func_part id start len) = len

-- how many of the parts have a byte from `from` up to `until`
abbrev pub touched : ℕ → ℕ → List Part → ℕ
touched from until [] = 0
touched from until (p ∷ ps) = min 1 (min (part_len p) until - from) + touched (from - part_len p) (until - part_len p) ps

-- no more parts than the old ones and those of the middle, and one: a part that is cut inside gives two
abbrev pub AtMostOneMore : List Part → List Part → List Part → Type 0
AtMostOneMore old middle new = length new ≤ length old + length middle + 1
