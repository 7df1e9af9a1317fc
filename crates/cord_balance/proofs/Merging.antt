-- A node that is put after pieces.
use Rattle.std.proofs.Common.{◌≡◌, ℕ, ◌+◌, ◌<◌, ◌≤◌, List, [], ◌∷◌, ◌++◌, refl, arith, ◌∙◌, sym, ap, ⊎_elim, append_assoc}
use Rattle.std.specs.Prelude.{max}
use Rattle.std.proofs.lemmas.Bool.{cases_lt}
use Rattle.cord_io.specs.declared.TheConstants.{MAX_LEN, MAX_DEPTH}
use Rattle.cord_balance.specs.declared.TheConstants.{MAX_INDEX}
use Rattle.cord_node.specs.Tree.{Cell, cells, len_of, depth_of, count_of, IsSound}
use Rattle.cord_node.specs.PartsFrom.{parts}
use Rattle.cord_node.proofs.PartsFromLemmas.{PartsFrom-self}
use Rattle.cord_node.proofs.TreeLemmas.{count_within_len}
use Rattle.cord_balance.specs.Fib.{fib_of, IsSlotOf}
use Rattle.cord_balance.specs.Pieces.{Shared}
use Rattle.cord_balance.specs.declared.forest.Piece.{Piece}
use Rattle.cord_balance.specs.inner.Forest.{IsPieceInSlot, AllFrom, IsForest, forest_cells, forest_parts, forest_len}
use Rattle.cord_balance.proofs.States.{IsMerging, IsJoinOf}
use Rattle.cord_balance.proofs.FibLemmas.{fib_mono, fib_sum, fib_index}
use Rattle.cord_balance.proofs.ForestLemmas.{forest_cells-snoc, forest_parts-snoc, forest_len-snoc, IsForest-init, IsForest-last}
use Rattle.cord_balance.proofs.ForestLemmas.{IsForest-falls, IsForest-push, AllFrom-lower, AllFrom-last, joined_shallow}
use Rattle.cord_balance.proofs.Gathering.{depth_in_slot, put_from}

-- two that are both in slot t or above
pub merged_shallow : (de dy le ly t : ℕ) → fib_of (de + 1) ≤ le → fib_of (dy + 1) ≤ ly → de ≤ t → dy ≤ t → fib_of t ≤ le → fib_of t ≤ ly →
    fib_of (max de dy + 1 + 1) ≤ le + ly
merged_shallow de dy le ly t a b h k u v =
    ⊎_elim
    (λ (c : de < dy). let e : max de dy ≡ dy = omega arith in
    let s : fib_of (dy + 1 + 1) ≡ fib_of dy + fib_of (dy + 1) = fib_sum dy (dy + 1 + 1) (omega arith) in let m : fib_of dy ≤ fib_of t =
    fib_mono dy t k in rw e (omega arith))
    (λ (c : dy ≤ de). let e : max de dy ≡ de = omega arith in
    let s : fib_of (de + 1 + 1) ≡ fib_of de + fib_of (de + 1) = fib_sum de (de + 1 + 1) (omega arith) in let m : fib_of de ≤ fib_of t =
    fib_mono de t h in rw e (omega arith))
    (cases_lt de dy)

-- the greatest depth that the join of the last piece and the node may have
pub merging_shallow : (old rest : List Piece) (p : Piece) (node joined : Shared) (slot : ℕ) →
    IsMerging old (rest ++ p ∷ []) node joined slot → p.slot < slot + 1 →
    fib_of (max (depth_of p.node.value) (depth_of joined.value) + 1 + 1) ≤ count_of p.node.value + count_of joined.value
merging_shallow old rest p node joined slot g b =
    let i : IsPieceInSlot p = IsForest-last rest p g.forest in
    let h : depth_of p.node.value < p.slot = depth_in_slot p i in
    let k : depth_of joined.value ≤ p.slot = AllFrom-last (depth_of joined.value) rest p g.beyond in
    let m : fib_of p.slot ≤ fib_of slot = fib_mono p.slot slot (omega arith) in
    merged_shallow (depth_of p.node.value) (depth_of joined.value) (count_of p.node.value) (count_of joined.value) p.slot i.shallow g.shallow
    (omega arith) k i.slot.above (omega (arith, g.slot_is.above))

-- the last piece and the node are no longer than all
pub merging_total : (old rest : List Piece) (p : Piece) (node joined : Shared) (slot : ℕ) →
    IsMerging old (rest ++ p ∷ []) node joined slot → forest_len old + len_of node.value ≤ MAX_LEN →
    len_of p.node.value + len_of joined.value ≤ MAX_LEN
merging_total old rest p node joined slot g h = let e : forest_len (rest ++ p ∷ []) ≡ forest_len rest + len_of p.node.value =
    forest_len-snoc rest p in omega (arith, g.len)

-- their join is not too deep
pub merging_depth : (old rest : List Piece) (p : Piece) (node joined : Shared) (slot : ℕ) →
    IsMerging old (rest ++ p ∷ []) node joined slot → p.slot < slot + 1 → forest_len old + len_of node.value ≤ MAX_LEN →
    max (depth_of p.node.value) (depth_of joined.value) + 1 ≤ MAX_DEPTH
merging_depth old rest p node joined slot g b h =
    let i : IsPieceInSlot p = IsForest-last rest p g.forest in
    let few : count_of p.node.value ≤ len_of p.node.value = count_within_len p.node.value i.sound in
    let some : count_of joined.value ≤ len_of joined.value = count_within_len joined.value g.sound in
    let k : fib_of (max (depth_of p.node.value) (depth_of joined.value) + 1 + 1) ≤ count_of p.node.value + count_of joined.value =
    merging_shallow old rest p node joined slot g b in
    let l : len_of p.node.value + len_of joined.value ≤ MAX_LEN = merging_total old rest p node joined slot g h in
    let m : max (depth_of p.node.value) (depth_of joined.value) + 1 + 1 < MAX_INDEX =
    fib_index (max (depth_of p.node.value) (depth_of joined.value) + 1 + 1) (omega arith) in
    omega arith

-- one more piece was joined
pub merging_step : (old rest : List Piece) (p : Piece) (node joined next : Shared) (slot slot' : ℕ) →
    IsMerging old (rest ++ p ∷ []) node joined slot → p.slot < slot + 1 → IsJoinOf p.node joined next →
    IsSlotOf (count_of next.value) slot' → IsMerging old rest node next slot'
merging_step old rest p node joined next slot slot' g b u s =
    let i : IsPieceInSlot p = IsForest-last rest p g.forest in
    let h : depth_of p.node.value < p.slot = depth_in_slot p i in
    let k : depth_of joined.value ≤ p.slot = AllFrom-last (depth_of joined.value) rest p g.beyond in
    let d : depth_of next.value ≤ max (depth_of p.node.value) (depth_of joined.value) + 1 = u.depth in
    let d1 : depth_of next.value + 1 ≤ max (depth_of p.node.value) (depth_of joined.value) + 1 + 1 = omega arith in
    let d2 : depth_of next.value ≤ p.slot + 1 = omega arith in
    let f : fib_of (depth_of next.value + 1) ≤ fib_of (max (depth_of p.node.value) (depth_of joined.value) + 1 + 1) =
    fib_mono (depth_of next.value + 1) (max (depth_of p.node.value) (depth_of joined.value) + 1 + 1) d1 in
    let m : fib_of (max (depth_of p.node.value) (depth_of joined.value) + 1 + 1) ≤ count_of p.node.value + count_of joined.value =
    merging_shallow old rest p node joined slot g b in
    let e : forest_len (rest ++ p ∷ []) ≡ forest_len rest + len_of p.node.value = forest_len-snoc rest p in
    record {
      forest = IsForest-init rest p g.forest;
      sound = u.sound;
      slot_is = s;
      shallow = joined_shallow p.node.value joined.value next.value 1 (omega arith) u.depth_is u.count (omega arith);
      beyond = AllFrom-lower (depth_of next.value) (p.slot + 1) rest d2 (IsForest-falls rest p g.forest);
      text = g.text ∙ ap (λ (l : List Cell). l ++ cells joined.value) (forest_cells-snoc rest p)
          ∙ append_assoc (forest_cells rest) (cells p.node.value) (cells joined.value) ∙ ap (λ (l : List Cell). forest_cells rest ++ l)
          (sym u.text);
      len = omega (arith, g.len, u.len);
      parts_from = put_from (forest_parts old ++ parts node.value) (forest_parts rest) (parts p.node.value) (parts joined.value)
          (parts next.value) (rw (← forest_parts-snoc rest p) g.parts_from) u.parts_from;
    }

-- nothing was joined yet
pub merging_start : (old : List Piece) (node : Shared) (slot : ℕ) → IsForest old → IsSound node.value → IsSlotOf (count_of node.value) slot →
    fib_of (depth_of node.value + 1) ≤ count_of node.value → AllFrom (depth_of node.value) old → IsMerging old old node node slot
merging_start old node slot f s i h a = record {
  forest = f;
  sound = s;
  slot_is = i;
  shallow = h;
  beyond = a;
  text = refl;
  len = refl;
  parts_from = PartsFrom-self (forest_parts old ++ parts node.value);
}

-- the new piece in its slot
pub merging_end : (old rest : List Piece) (node joined : Shared) (slot : ℕ) → IsMerging old rest node joined slot →
    AllFrom (slot + 1) rest → IsForest (rest ++ record { node = joined; slot = slot } ∷ [])
merging_end old rest node joined slot g a = IsForest-push rest (record { node = joined; slot = slot }) g.forest
    (record { sound = g.sound; slot = g.slot_is; shallow = g.shallow }) a
