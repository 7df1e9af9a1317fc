-- Which line begins where.
use Rattle.std.proofs.Common.{◌≡◌, ℕ, ◌≤◌, Some, None, List, [], ◌∷◌, length, drop, get_or, ap, sym, ◌∙◌, arith, length-drop}
use Rattle.std.specs.Prelude.{slice_get}
use Rattle.std.proofs.lemmas.List.{drop_all, get_or-drop}
use Rattle.std.proofs.lemmas.Option.{slice_get_past, slice_get-get_or}
use Rattle.cord.specs.Lines.{bare_lines}

-- the line of a number begins at a place, which is the end where there is no such line
pub record IsLineStart (x : List ℕ) (n start : ℕ) : Type 0 where
  pub inside : start ≤ length x
  pub rest : bare_lines (drop start x) ≡ drop n (bare_lines x)

module _ (x : List ℕ) (n start : ℕ) (i : IsLineStart x n start) where
  -- no line begins at the end
  none_left : length x ≤ start → drop n (bare_lines x) ≡ []
  none_left le = sym i.rest ∙ ap bare_lines (drop_all start x le)

  are_few : length x ≤ start → length (bare_lines x) ≤ n
  are_few le =
      let none : length (drop n (bare_lines x)) ≡ 0 = ap (λ (ys : List (List ℕ)). length ys) (none_left le) in
      omega (arith, none, length-drop n (bare_lines x))

  pub no_line : length x ≤ start → slice_get (bare_lines x) n ≡ None
  no_line le = slice_get_past (bare_lines x) n (are_few le)

  pub line_there : (line : List ℕ) (after : List (List ℕ)) → bare_lines (drop start x) ≡ line ∷ after →
      slice_get (bare_lines x) n ≡ Some line
  line_there line after e =
      let here : drop n (bare_lines x) ≡ line ∷ after = sym i.rest ∙ e in
      let count : length (drop n (bare_lines x)) ≡ length (line ∷ after) = ap (λ (ys : List (List ℕ)). length ys) here in
      let at : get_or (bare_lines x) n line ≡ line =
      ap (λ (k : ℕ). get_or (bare_lines x) k line) (omega arith) ∙ sym (get_or-drop n (bare_lines x) 0 line)
      ∙ ap (λ (ys : List (List ℕ)). get_or ys 0 line) here in
      slice_get-get_or (bare_lines x) n line (omega (arith, count, length-drop n (bare_lines x))) ∙ ap (λ (y : List ℕ). Some y) at
