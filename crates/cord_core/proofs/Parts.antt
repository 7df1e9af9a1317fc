-- What the form of a cord of one part says of its text.
use Rattle.std.proofs.Common.{◌≡◌, ℕ, ◌<◌, List, length, map, take, drop, refl, sym, ap, inl, inr, arith}
use Rattle.std.specs.Prelude.{Option, Some, None}
use Rattle.std.proofs.lemmas.List.{take_all}
use Rattle.cord_node.specs.declared.Node.{Node}
use Rattle.cord_node.specs.declared.Node.TheVariants.{Leaf, Run, Func, Cat'}
use Rattle.cord_node.specs.Tree.{known}
use Rattle.cord_core.specs.Cord.{text, text_len}
use Rattle.cord_core.specs.Forms.{IsLeafOf, IsFuncOf}
use Rattle.cord_core.specs.Equations.{HasText, IsSourceRange}

-- all of a list
whole : (b xs : List ℕ) (start len : ℕ) → xs ≡ b → start ≡ 0 → len ≡ length b → take len (drop start xs) ≡ b
whole b xs start len same first all = rw (first, all, same) (take_all (length b) b (omega arith))

pub leaf_text : (b : List ℕ) (c : Option Node) → IsLeafOf b c → text c ≡ map known b
leaf_text b None f = rw f refl
leaf_text b (Some (Leaf len bytes start mark)) f = ap (map known) (whole b _ start len f.0 f.1 f.2)
leaf_text b (Some (Run byte len)) f = absurd f
leaf_text b (Some (Func id len start)) f = absurd f
leaf_text b (Some (Cat' mark depth len p left q right count)) f = absurd f

pub leaf_len : (b : List ℕ) (c : Option Node) → IsLeafOf b c → text_len c ≡ length b
leaf_len b None f = rw f refl
leaf_len b (Some (Leaf len bytes start mark)) f = f.2
leaf_len b (Some (Run byte len)) f = absurd f
leaf_len b (Some (Func id len start)) f = absurd f
leaf_len b (Some (Cat' mark depth len p left q right count)) f = absurd f

pub leaf_over : (b : List ℕ) (c : Option Node) → IsLeafOf b c → HasText b c
leaf_over b None f = record { fits = λ ls. tt; bytes = λ t. sym f }
leaf_over b (Some (Leaf len bytes start mark)) f = record { fits = λ ls. tt; bytes = λ t. whole b _ start len f.0 f.1 f.2 }
leaf_over b (Some (Run byte len)) f = absurd f
leaf_over b (Some (Func id len start)) f = absurd f
leaf_over b (Some (Cat' mark depth len p left q right count)) f = absurd f

-- at least one byte of a source
pub range_over : (id s n : ℕ) (c : Option Node) → 0 < n → IsFuncOf id s n c → IsSourceRange id s n c
range_over id s n None some f = absurd (omega (arith, some, f))
range_over id s n (Some (Leaf len bytes start mark)) some f = absurd f
range_over id s n (Some (Run byte len)) some f = absurd f
range_over id s n (Some (Func i len start)) some f = record {
  fits = λ ls held. elim held [
    | inl inside ↦ rw (f.0, f.1, f.2) inside
    | inr none ↦ absurd (omega (arith, some, none))
  ];
  bytes = λ t held. rw (f.0, f.1, f.2) refl;
}
range_over id s n (Some (Cat' mark depth len p left q right count)) some f = absurd f
