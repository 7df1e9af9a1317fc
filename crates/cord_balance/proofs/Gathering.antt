-- One more piece is joined to those that were taken off a forest.
use Rattle.std.proofs.Common.{◌≡◌, ℕ, ◌+◌, ◌<◌, ◌≤◌, List, [], ◌∷◌, ◌++◌, arith, ◌∙◌, sym, ap, subst, append_assoc, append-nil}
use Rattle.std.specs.Prelude.{max, Option, Some, None}
use Rattle.cord_io.specs.declared.TheConstants.{MAX_LEN}
use Rattle.cord_node.specs.Tree.{Cell, cells, len_of, depth_of, count_of}
use Rattle.cord_node.specs.PartsFrom.{Part, parts, PartsFrom}
use Rattle.cord_node.proofs.PartsFromLemmas.{PartsFrom-self, PartsFrom_same, PartsFrom-both, PartsFrom-trans}
use Rattle.cord_balance.specs.Fib.{fib_of}
use Rattle.cord_balance.specs.Pieces.{Shared}
use Rattle.cord_balance.specs.declared.forest.Piece.{Piece}
use Rattle.cord_balance.specs.inner.Forest.{IsPieceInSlot, IsForest, forest_cells, forest_parts, forest_len, piece_cells, piece_parts, piece_len}
use Rattle.cord_balance.proofs.States.{GoesRightOf, IsGathering, IsPutLeft}
use Rattle.cord_balance.proofs.FibLemmas.{fib_mono, fib_below}
use Rattle.cord_balance.proofs.ForestLemmas.{forest_cells-snoc, forest_parts-snoc, forest_len-snoc, IsForest-init, IsForest-last}
use Rattle.cord_balance.proofs.ForestLemmas.{IsForest-falls, AllFrom-lower, AllFrom-last}

-- nothing was taken off
pub gathering_start : (old : List Piece) (below : ℕ) → IsForest old → IsGathering old old None below
gathering_start old below f = record {
  forest = f;
  text = sym (append-nil (forest_cells old));
  len = omega arith;
  parts_from = PartsFrom_same (forest_parts old) (forest_parts old ++ []) (append-nil (forest_parts old));
  gathered = tt;
  right = tt;
}

-- a piece is less deep than its slot's number
pub depth_in_slot : (p : Piece) → IsPieceInSlot p → depth_of p.node.value < p.slot
depth_in_slot p i = let h : depth_of p.node.value + 1 < p.slot + 1 =
    fib_below (depth_of p.node.value + 1) (p.slot + 1) (omega (arith, i.shallow, i.slot.below)) in omega arith

-- a piece with what stands to its right is no deeper than its slot
depth_put : (rest : List Piece) (p : Piece) (joined : Option Shared) (node : Shared) → IsPieceInSlot p → GoesRightOf joined (rest ++ p ∷ []) →
    IsPutLeft p.node joined node → depth_of node.value ≤ p.slot
depth_put rest p None node i r u = let h : depth_of p.node.value < p.slot = depth_in_slot p i in
    let e : depth_of node.value ≡ depth_of p.node.value = u.alone in omega arith
depth_put rest p (Some n) node i r u =
    let h : depth_of p.node.value < p.slot = depth_in_slot p i in
    let k : depth_of n.value + 1 ≤ p.slot = AllFrom-last (depth_of n.value + 1) rest p r in
    let e : depth_of node.value ≤ max (depth_of p.node.value) (depth_of n.value) + 1 = u.depth in
    omega arith

-- so for the last piece, joined with what stands to its right
pub put_from : (a b c j n : List Part) → PartsFrom a (b ++ c ++ j) → PartsFrom (c ++ j) n → PartsFrom a (b ++ n)
put_from a b c j n h k =
    let l : PartsFrom (b ++ (c ++ j)) (b ++ n) = PartsFrom-both b (c ++ j) b n (PartsFrom-self b) k in
    PartsFrom-trans a (b ++ (c ++ j)) (b ++ n) (rw (← append_assoc b c j) h) l

-- one more piece was taken off and joined
pub gathering_step : (old rest : List Piece) (p : Piece) (joined : Option Shared) (node : Shared) (below : ℕ) →
    IsGathering old (rest ++ p ∷ []) joined below → p.slot < below → IsPutLeft p.node joined node → IsGathering old rest (Some node) below
gathering_step old rest p joined node below g b u =
    let i : IsPieceInSlot p = IsForest-last rest p g.forest in
    let d : depth_of node.value ≤ p.slot = depth_put rest p joined node i g.right u in
    let j : depth_of node.value < below = omega arith in
    let k : depth_of node.value + 1 ≤ p.slot + 1 = omega arith in
    let e : forest_len (rest ++ p ∷ []) ≡ forest_len rest + len_of p.node.value = forest_len-snoc rest p in
    record {
      forest = IsForest-init rest p g.forest;
      text = g.text ∙ ap (λ (l : List Cell). l ++ piece_cells joined) (forest_cells-snoc rest p)
          ∙ append_assoc (forest_cells rest) (cells p.node.value) (piece_cells joined) ∙ ap (λ (l : List Cell). forest_cells rest ++ l)
          (sym u.text);
      len = omega (arith, g.len, u.len);
      parts_from = put_from (forest_parts old) (forest_parts rest) (parts p.node.value) (piece_parts joined) (parts node.value)
          (rw (← forest_parts-snoc rest p) g.parts_from) u.parts_from;
      gathered = (u.sound, u.shallow, j);
      right = AllFrom-lower (depth_of node.value + 1) (p.slot + 1) rest k (IsForest-falls rest p g.forest);
    }

-- what is joined on the left is long enough
pub gathering_shallow : (old rest : List Piece) (p : Piece) (joined : Option Shared) (below : ℕ) →
    IsGathering old (rest ++ p ∷ []) joined below → (x : Shared) → joined ≡ Some x → fib_of (depth_of x.value + 1) ≤ count_of p.node.value
gathering_shallow old rest p joined below g x e =
    let i : IsPieceInSlot p = IsForest-last rest p g.forest in
    let P : Option Shared → Type 0 = λ o. GoesRightOf o (rest ++ p ∷ []) in
    let r : GoesRightOf (Some x) (rest ++ p ∷ []) = subst P e g.right in
    let h : depth_of x.value + 1 ≤ p.slot = AllFrom-last (depth_of x.value + 1) rest p r in
    let k : fib_of (depth_of x.value + 1) ≤ fib_of p.slot = fib_mono (depth_of x.value + 1) p.slot h in
    omega (arith, i.slot.above)

-- what is joined is no longer than all was
pub gathering_fits : (old rest : List Piece) (p : Piece) (joined : Option Shared) (below : ℕ) →
    IsGathering old (rest ++ p ∷ []) joined below → forest_len old ≤ MAX_LEN → len_of p.node.value + piece_len joined ≤ MAX_LEN
gathering_fits old rest p joined below g h = let e : forest_len (rest ++ p ∷ []) ≡ forest_len rest + len_of p.node.value =
    forest_len-snoc rest p in omega (arith, g.len)
