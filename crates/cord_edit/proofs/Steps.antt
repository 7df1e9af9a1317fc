-- What each edit does to the text of a cord with bytes in the place of a range.
use Rattle.std.proofs.Common.{◌≡◌, ℕ, ◌+◌, ◌-◌, ◌≤◌, List, [], ◌++◌, length, map, take, drop, refl, sym, ap, ◌∙◌, arith}
use Rattle.std.specs.Prelude.{min}
use Rattle.std.proofs.lemmas.List.{length-take-le, length-map, map-append, take-map}
use Rattle.cord_node.specs.Tree.{Cell, known}
use Rattle.cord_core.proofs.Splices.{clamped_text}
use Rattle.cord_edit.specs.Edits.{edited}
use Rattle.cord_edit.proofs.Lists.{inserted_after, inserted_before, insert_clamped, removed_beside}

-- the text of a cord with bytes in the place of those from `cut_start` up to `cut_end`
abbrev pub gapped : List Cell → List ℕ → ℕ → ℕ → List Cell
gapped xs g cut_start cut_end = take cut_start xs ++ map known g ++ drop cut_end xs

module _ (xs all : List Cell) (g : List ℕ) (cut_start cut_end len total : ℕ) (view : gapped xs g cut_start cut_end ≡ all)
    (counted : length xs ≡ len) (order : cut_start ≤ cut_end) (inside : cut_end ≤ len) (reported : total ≡ length all) where
  size : length (take cut_start xs) ≡ cut_start
  size = length-take-le cut_start xs (omega (arith, counted, order, inside))

  -- bytes after those in the gap
  pub typed_after : (b h : List ℕ) (at start : ℕ) → h ≡ g ++ b → at ≡ min start total → at ≡ cut_start + length g →
      gapped xs h cut_start cut_end ≡ edited start 0 (map known b) all
  typed_after b h at start added clamp here =
      let place : at ≡ length (take cut_start xs) + length (map known g) = omega (arith, here, size, length-map g known) in
      ap (λ (ys : List ℕ). gapped xs ys cut_start cut_end) added
      ∙ ap (λ (ys : List Cell). take cut_start xs ++ ys ++ drop cut_end xs) (map-append known g b)
      ∙ inserted_after (take cut_start xs) (map known g) (map known b) (drop cut_end xs) at place
      ∙ ap (edited at 0 (map known b)) view
      ∙ insert_clamped all (map known b) start at total (sym reported) clamp

  -- bytes in front of those in the gap
  pub typed_before : (b h : List ℕ) (at start : ℕ) → h ≡ b ++ g → at ≡ min start total → at ≡ cut_start →
      gapped xs h cut_start cut_end ≡ edited start 0 (map known b) all
  typed_before b h at start added clamp here =
      let place : at ≡ length (take cut_start xs) = omega (arith, here, size) in
      ap (λ (ys : List ℕ). gapped xs ys cut_start cut_end) added
      ∙ ap (λ (ys : List Cell). take cut_start xs ++ ys ++ drop cut_end xs) (map-append known b g)
      ∙ inserted_before (take cut_start xs) (map known g) (map known b) (drop cut_end xs) at place
      ∙ ap (edited at 0 (map known b)) view
      ∙ insert_clamped all (map known b) start at total (sym reported) clamp

  -- bytes are taken out next to the end of those in the gap
  pub removed_next : (h : List ℕ) (first parts_from from until end start count cut limit : ℕ) → first ≡ min cut_start from → parts_from ≡ from -
      cut_start →
      h ≡ take parts_from g → end ≡ cut_start + length g → from ≤ end → end ≤ until → total ≤ limit → from ≡ min start total →
      cut ≡ min (start + count) limit → until ≡ min cut total → gapped xs h first (cut_end + (until - end)) ≡ edited start count [] all
  removed_next h first parts_from from until end start count cut limit f k left e lo hi small clamp sum until_is =
      let bytes : map known h ≡ take (from - cut_start) (map known g) =
      ap (map known) (left ∙ ap (λ (n : ℕ). take n g) k) ∙ sym (take-map known (from - cut_start) g) in
      ap (λ (n : ℕ). gapped xs h n (cut_end + (until - end))) f
      ∙ ap (λ (ys : List Cell). take (min cut_start from) xs ++ ys ++ drop (cut_end + (until - end)) xs) bytes
      ∙ removed_beside xs (map known g) cut_start cut_end from until end (omega (arith, counted, order, inside))
      (omega (arith, e, length-map g known)) lo hi
      ∙ ap (λ (ys : List Cell). take from ys ++ [] ++ drop until ys) view
      ∙ clamped_text all [] (take from all ++ [] ++ drop until all) start (start + count) limit total from cut until (sym reported) small
      clamp sum until_is refl

-- bytes are taken out elsewhere, after those in the gap were put into the cord
pub removed_apart : (xs all : List Cell) (h : List ℕ) (total from until start count cut limit : ℕ) → xs ≡ all → h ≡ [] →
    total ≡ length all → total ≤ limit → from ≡ min start total → cut ≡ min (start + count) limit → until ≡ min cut total →
    gapped xs h from until ≡ edited start count [] all
removed_apart xs all h total from until start count cut limit same none reported small clamp sum until_is =
    ap (λ (ys : List ℕ). gapped xs ys from until) none ∙ ap (λ (ys : List Cell). take from ys ++ [] ++ drop until ys) same
    ∙ clamped_text all [] (take from all ++ [] ++ drop until all) start (start + count) limit total from cut until (sym reported) small
    clamp sum until_is refl
