-- Subtrees and their balanced forms.
use Rattle.std.proofs.Common.{◌≡◌, ℕ, ◌+◌, ◌<◌, ◌≤◌, List, [], ◌++◌, ◌∙◌, sym, ap, subst, append_assoc, arith}
use Rattle.std.specs.declared.rc.Rc.{Rc}
use Rattle.std.specs.Global.{Global}
use Rattle.cord_io.specs.declared.TheConstants.{MAX_LEN}
use Rattle.cord_balance.specs.declared.TheConstants.{MAX_INDEX}
use Rattle.cord_node.specs.declared.Node.{Node}
use Rattle.cord_node.specs.declared.Node.TheVariants.{Cat'}
use Rattle.cord_node.specs.Tree.{Cell, cells, len_of, IsSound}
use Rattle.cord_node.specs.PartsFrom.{Part, parts, PartsFrom}
use Rattle.cord_node.proofs.TreeLemmas.{len_positive}
use Rattle.cord_node.proofs.PartsFromLemmas.{PartsFrom-self, PartsFrom-both, PartsFrom-trans}
use Rattle.cord_balance.specs.declared.forest.Piece.{Piece}
use Rattle.cord_balance.specs.inner.Forest.{AllFrom, IsForest, IsForm, forest_cells, forest_parts, forest_len}
use Rattle.cord_balance.proofs.ForestLemmas.{no_pieces}
use Rattle.cord_balance.proofs.Inserting.{two_from}

-- a node was put after pieces
pub record IsPut (old new : List Piece) (n : Node) : Type 0 where
  pub text : forest_cells new ≡ forest_cells old ++ cells n
  pub len : forest_len new ≡ forest_len old + len_of n
  pub parts_from : PartsFrom (forest_parts old ++ parts n) (forest_parts new)

-- a form that was put after pieces stands for its node
pub form_put : (old new : List Piece) (n form : Node) → IsForm n form → IsPut old new form → IsPut old new n
form_put old new n form f put = record {
  text = put.text ∙ ap (λ (cs : List Cell). forest_cells old ++ cs) f.text;
  len = put.len ∙ ap (λ (k : ℕ). forest_len old + k) f.len;
  parts_from = PartsFrom-trans (forest_parts old ++ parts n) (forest_parts old ++ parts form) (forest_parts new)
      (PartsFrom-both (forest_parts old) (parts n) (forest_parts old) (parts form) (PartsFrom-self (forest_parts old)) f.parts_from)
      put.parts_from;
}

-- a concatenation is put where its two sides are
pub cat_put : (old mid new : List Piece) (n : Node) (p : Rc (Unit {0}) Global) (l : Node) (q : Rc (Unit {0}) Global) (r : Node)
    (len depth count : ℕ) (mark : List Part) → n ≡ Cat' mark depth len p l q r count → IsSound n → IsPut old mid l → IsPut mid new r → IsPut old new n
cat_put old mid new n p l q r len depth count mark e s one two =
    let v : IsSound (Cat' mark depth len p l q r count) = subst IsSound e s in
    let long : len ≡ len_of l + len_of r = v.2 in
    let put : IsPut old new (Cat' mark depth len p l q r count) = record {
      text = two.text ∙ ap (λ (cs : List Cell). cs ++ cells r) one.text ∙ append_assoc (forest_cells old) (cells l) (cells r);
      len = omega (arith, one.len, two.len, long);
      parts_from = two_from (forest_parts old) (parts l) (parts r) (forest_parts mid) (forest_parts new) one.parts_from two.parts_from;
    } in
    subst (λ (m : Node). IsPut old new m) (sym e) put

-- what all pieces of an empty forest and a node were joined to is the node's form
pub form_of_put : (old all : List Piece) (n form : Node) → old ≡ [] → IsPut old all n → IsSound form → cells form ≡ forest_cells all →
    len_of form ≡ forest_len all → PartsFrom (forest_parts all) (parts form) → IsForm n form
form_of_put old all n form none put s t k parts_from =
    let fresh : IsPut [] all n = subst (λ (ps : List Piece). IsPut ps all n) none put in
    record {
      sound = s;
      text = t ∙ fresh.text;
      len = omega (arith, k, fresh.len);
      parts_from = PartsFrom-trans (parts n) (forest_parts all) (parts form) fresh.parts_from parts_from;
    }

-- the right side of a concatenation isn't empty
pub right_some : (n : Node) (p : Rc (Unit {0}) Global) (l : Node) (q : Rc (Unit {0}) Global) (r : Node) (len depth count : ℕ)
    (mark : List Part) → n ≡ Cat' mark depth len p l q r count → IsSound n → 0 < len_of r
right_some n p l q r len depth count mark e s =
    let v : IsSound (Cat' mark depth len p l q r count) = subst IsSound e s in
    len_positive r v.1

-- nothing is left of a forest of which all was taken
pub all_taken : (old rest : List Piece) (len : ℕ) → IsForest rest → AllFrom MAX_INDEX rest → forest_len old ≤ MAX_LEN →
    forest_len old ≡ forest_len rest + len → rest ≡ []
all_taken old rest len f a h e = no_pieces rest f a (omega (arith, h, e))

-- and something was joined
pub some_taken : (old rest : List Piece) → IsForest rest → AllFrom MAX_INDEX rest → forest_len old ≤ MAX_LEN → 0 < forest_len old →
    forest_len old ≡ forest_len rest + 0 → ⊥
some_taken old rest f a h some e =
    let none : rest ≡ [] = all_taken old rest 0 f a h e in
    let zero : forest_len rest ≡ 0 = ap forest_len none in
    omega (arith, e, some)
