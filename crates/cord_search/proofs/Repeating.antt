-- Texts that repeat themselves stand at few places of one another.
use Rattle.cord_search.proofs.Common.{AreSame, IsCommon, IsReadable, IsReported, Lengths, List, Node, Option, StandsAt, StandsNot, Table, [], ap}
use Rattle.cord_search.proofs.Common.{arith, bytes_of, cases_lt, drop, get_or, get_or-drop, get_or-take, length, sym, take, text_len, ℕ, ⊎_elim, ◌++◌}
use Rattle.cord_search.proofs.Common.{◌+◌, ◌-◌, ◌<◌, ◌∙◌, ◌∷◌, ◌≡◌, ◌≤◌}
use Rattle.std.proofs.lemmas.List.{take_more}
use Rattle.cord_search.proofs.Reading.{len_in}
use Rattle.cord_search.proofs.Standing.{stands_get, stands_inside}

-- the same bytes at one place
same_at : (t : Table) (x : Option Node) (i : ℕ) (y : Option Node) (j n k : ℕ) → AreSame t x i y j n → k < n →
    get_or (bytes_of t x) (i + k) 0 ≡ get_or (bytes_of t y) (j + k) 0
same_at t x i y j n k same lt =
    let u = bytes_of t x in
    let v = bytes_of t y in
    sym (get_or-drop i u k 0) ∙ sym (get_or-take n (drop i u) k 0 lt) ∙ ap (λ (ys : List ℕ). get_or ys k 0) same
    ∙ get_or-take n (drop j v) k 0 lt ∙ get_or-drop j v k 0

-- one more place with the same bytes
pub agree_on : (xs ys : List ℕ) (p : ℕ) → p < length xs → p < length ys → get_or xs p 0 ≡ get_or ys p 0 → take p xs ≡ take p ys →
    take (p + 1) xs ≡ take (p + 1) ys
agree_on xs ys p l r e same = take_more xs p 0 l ∙ ap (λ (zs : List ℕ). zs ++ get_or xs p 0 ∷ []) same
    ∙ ap (λ (b : ℕ). take p ys ++ b ∷ []) e ∙ sym (take_more ys p 0 r)

-- all of so many bytes are the same
pub common_all : (t : Table) (x : Option Node) (i : ℕ) (y : Option Node) (j most done : ℕ) → done ≤ most → most ≤ done →
    AreSame t x i y j done → IsCommon t x i y j most done
common_all t x i y j most done le ge s = record { within = le; same = s; differ = λ lt. absurd (omega (arith, lt, ge)) }

module _ {lengths : Lengths} {t : Table} {x s : Option Node} {place period count run : ℕ} (held : IsReported lengths t)
    (readable : IsReadable lengths x) (pattern : IsReadable lengths s) (inside : period ≤ text_len s)
    (repeats : IsCommon t s 0 s period (text_len s - period) count)
    (runs : IsCommon t x place x (place + period) (text_len x - (place + period)) run) where
  len : length (bytes_of t x) ≡ text_len x
  len = len_in held readable

  pattern_len : length (bytes_of t s) ≡ text_len s
  pattern_len = len_in held pattern

  -- at two places, one a period after the other, a text has what one has that stands in it
  both : (q k : ℕ) → StandsAt (bytes_of t x) (bytes_of t s) q → k + period < text_len s →
      (get_or (bytes_of t x) (q + k) 0 ≡ get_or (bytes_of t s) k 0)
      × (get_or (bytes_of t x) (q + (period + k)) 0 ≡ get_or (bytes_of t s) (period + k) 0)
  both q k at lt = (
    stands_get (bytes_of t x) (bytes_of t s) q k at (omega (arith, lt, pattern_len)),
    stands_get (bytes_of t x) (bytes_of t s) q (period + k) at (omega (arith, lt, pattern_len)),
  )

  -- where the pattern repeats itself as far as the text or further, it stands nowhere over the end of that
  pub passed_short : run ≤ count → StandsNot t x (bytes_of t s) (place + 1) (place + (run + 1))
  passed_short le = λ q low to at. ⊎_elim (λ (lt : run < text_len x - (place + period)).
      let k = place + run - q in
      let below : k + period < text_len s = omega (arith, low, to, le, repeats.within, inside) in
      let from : q + k ≡ place + run = omega (arith, low, to) in
      let next : q + (period + k) ≡ place + period + run = omega (arith, low, to) in
      let zero : 0 + k ≡ k = omega arith in
      let same = rw zero at (same_at t s 0 s period count k repeats.same (omega (arith, low, to, le))) in
      let there = rw (from, next) at (both q k at below) in
      runs.differ lt (there.0 ∙ same ∙ sym there.1)) (λ (end : text_len x - (place + period) ≤ run). omega (
        arith,
        low,
        end,
        le,
        repeats.within,
        len,
        pattern_len,
        inside,
        stands_inside (bytes_of t x) (bytes_of t s) q at,
      )) (cases_lt run (text_len x - (place + period)))

  -- where the text does further, the pattern's end of that stands at none of the places before the text's
  pub passed_long : count < run → count < text_len s - period → StandsNot t x (bytes_of t s) (place + 1) (place + (run - count))
  passed_long lt ends = λ q low to at.
      let k = q - place + count in
      let from : place + k ≡ q + count = omega (arith, low) in
      let next : place + period + k ≡ q + (period + count) = omega (arith, low) in
      let zero : 0 + count ≡ count = omega arith in
      let same = rw (from, next) at (same_at t x place x (place + period) run k runs.same (omega (arith, low, to, lt))) in
      let there = both q count at (omega (arith, ends, inside)) in
      repeats.differ ends (rw zero (sym there.0 ∙ same ∙ there.1))
