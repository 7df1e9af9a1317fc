-- Which line begins where.
use Rattle.std.specs.Prelude.{◌≡◌, ℕ, ◌+◌, ◌-◌, ◌==◌, ◌≤◌, ◌++◌, List, [], ◌∷◌, take, drop, if◌then◌else◌, length, Bool, false, not, Option, Some, None, slice_get}
use Rattle.cord_lines.specs.Counts.{is_end}

-- the place after the n-th end of a line: the end of the text where there are fewer
abbrev pub after_ends : ℕ → List ℕ → ℕ
after_ends n [] = 0
after_ends n (b ∷ x) = if n == 0 then 0 else 1 + after_ends (if is_end b then n - 1 else n) x

-- the byte is there, and is no end of a line
abbrev pub is_inside_line : Option ℕ → Bool
is_inside_line None = false
is_inside_line (Some b) = not (is_end b)

-- the last line of a text lacks its end
abbrev pub lacks_end : List ℕ → Bool
lacks_end x = is_inside_line (slice_get x (length x - 1))

-- a text has some bytes in the place of others of the text before
pub record IsEditOf (before after : List ℕ) (start removed inserted : ℕ) : Type 0 where
  pub fresh : List ℕ
  pub count : length fresh ≡ inserted
  pub inside : start + removed ≤ length before
  pub text : after ≡ take start before ++ fresh ++ drop (start + removed) before
