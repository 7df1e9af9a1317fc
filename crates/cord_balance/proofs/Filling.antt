-- A list of nodes goes into a forest, and out of it as one.
use Rattle.std.proofs.Common.{◌≡◌, ◌+◌, ◌<◌, ◌≤◌, List, [], ◌∷◌, ◌++◌, length, refl, arith, ◌∙◌, sym, ap, append_assoc, append-nil}
use Rattle.cord_io.specs.declared.TheConstants.{MAX_LEN}
use Rattle.cord_balance.specs.declared.TheConstants.{MAX_INDEX}
use Rattle.cord_node.specs.Tree.{Cell, cells, len_of}
use Rattle.cord_node.specs.PartsFrom.{parts, PartsFrom}
use Rattle.cord_node.proofs.PartsFromLemmas.{PartsFrom-more, PartsFrom-self, PartsFrom-trans}
use Rattle.cord_node.proofs.TreeLemmas.{len_positive}
use Rattle.cord_balance.specs.Pieces.{Shared, all_cells, all_parts, total_len, AllSound}
use Rattle.cord_balance.specs.declared.forest.Piece.{Piece}
use Rattle.cord_balance.specs.inner.Forest.{AllFrom, IsForest, forest_cells, forest_parts, forest_len}
use Rattle.cord_balance.proofs.States.{IsFilling}
use Rattle.cord_balance.proofs.ForestLemmas.{no_pieces}

-- the forest is empty
pub filling_start : (all : List Shared) (f : List Piece) → AllSound all → f ≡ [] → IsFilling all all f
filling_start all f s e = rw e (record {
  is_forest = tt;
  sound = s;
  text = refl;
  len = omega arith;
  parts_from = PartsFrom-self
      (all_parts all);
})

-- one more node is in the forest
pub filling_step : (all : List Shared) (x : Shared) (rest : List Shared) (f g : List Piece) → IsFilling all (x ∷ rest) f → IsForest g →
    forest_cells g ≡ forest_cells f ++ cells x.value → forest_len g ≡ forest_len f + len_of x.value →
    PartsFrom (forest_parts f ++ parts x.value) (forest_parts g) → IsFilling all rest g
filling_step all x rest f g i w t l k = record {
  is_forest = w;
  sound = i.sound.1;
  text = ap (λ (cs : List Cell). cs ++ all_cells rest) t ∙ append_assoc (forest_cells f) (cells x.value) (all_cells rest) ∙ i.text;
  len = omega (arith, i.len);
  parts_from = PartsFrom-more (all_parts all) (forest_parts f) (parts x.value) (all_parts rest) (forest_parts g) i.parts_from k;
}

-- no list of nodes is empty
total_positive : (all : List Shared) → 0 < length all → AllSound all → 0 < total_len all
total_positive [] h s = absurd (omega arith)
total_positive (x ∷ xs) h s = let p : 0 < len_of x.value = len_positive x.value s.0 in omega arith

-- something was gathered
pub filling_none : (all : List Shared) (f g : List Piece) → IsFilling all [] f → total_len all ≤ MAX_LEN → 0 < length all → AllSound all →
    IsForest g → AllFrom MAX_INDEX g → forest_len f ≡ forest_len g + 0 → ⊥
filling_none all f g i h n s w a l =
    let e : g ≡ [] = no_pieces g w a (omega (arith, i.len)) in
    let z : forest_len g ≡ 0 = ap forest_len e in
    let p : 0 < total_len all = total_positive all n s in
    omega (arith, i.len)

-- what was gathered has the texts of all
pub filling_text : (all : List Shared) (f g : List Piece) (x : Shared) → IsFilling all [] f → total_len all ≤ MAX_LEN → IsForest g →
    AllFrom MAX_INDEX g → forest_len f ≡ forest_len g + len_of x.value → forest_cells f ≡ forest_cells g ++ cells x.value →
    cells x.value ≡ all_cells all
filling_text all f g x i h w a l t =
    let e : g ≡ [] = no_pieces g w a (omega (arith, i.len)) in
    let u : forest_cells f ≡ cells x.value = t ∙ ap (λ (ps : List Piece). forest_cells ps ++ cells x.value) e in
    sym u ∙ sym (append-nil (forest_cells f)) ∙ i.text

-- and its parts come from theirs
pub filling_from : (all : List Shared) (f g : List Piece) (x : Shared) → IsFilling all [] f → total_len all ≤ MAX_LEN → IsForest g →
    AllFrom MAX_INDEX g → forest_len f ≡ forest_len g + len_of x.value → PartsFrom (forest_parts f) (forest_parts g ++ parts x.value) →
    PartsFrom (all_parts all) (parts x.value)
filling_from all f g x i h w a l k =
    let e : g ≡ [] = no_pieces g w a (omega (arith, i.len)) in
    let m : PartsFrom (forest_parts f) (parts x.value) = rw e at k in
    let n : PartsFrom (all_parts all) (forest_parts f) = rw append-nil at i.parts_from in
    PartsFrom-trans (all_parts all) (forest_parts f) (parts x.value) n m

-- and its length is theirs together
pub filling_len : (all : List Shared) (f g : List Piece) (x : Shared) → IsFilling all [] f → total_len all ≤ MAX_LEN → IsForest g →
    AllFrom MAX_INDEX g → forest_len f ≡ forest_len g + len_of x.value → len_of x.value ≡ total_len all
filling_len all f g x i h w a l =
    let e : g ≡ [] = no_pieces g w a (omega (arith, i.len)) in
    let z : forest_len g ≡ 0 = ap forest_len e in
    omega (arith, i.len)
