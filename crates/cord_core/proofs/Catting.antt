-- Cords are put one after another.
use Rattle.std.proofs.Common.{◌≡◌, ◌+◌, List, [], ◌∷◌, ◌++◌, refl, arith, ◌∙◌, sym, ap, append_assoc, append-nil}
use Rattle.std.specs.Prelude.{Option, None}
use Rattle.cord_node.specs.declared.Node.{Node}
use Rattle.cord_node.specs.Tree.{Cell}
use Rattle.cord_node.specs.PartsFrom.{PartsFrom}
use Rattle.cord_node.proofs.PartsFromLemmas.{PartsFrom-more, PartsFrom-self}
use Rattle.cord_core.specs.Cord.{text, text_len, parts_of, IsCord, all_text, all_len, all_parts}

-- the text so far and that of the cords that are left are the whole
pub record IsCatting (cords rest : List (Option Node)) (all : Option Node) : Type 0 where
  pub sound : IsCord all
  pub reported : text all ++ all_text rest ≡ all_text cords
  pub len : text_len all + all_len rest ≡ all_len cords
  pub parts_from : PartsFrom (all_parts cords) (parts_of all ++ all_parts rest)

-- nothing was joined yet
pub catting_start : (cords : List (Option Node)) (all : Option Node) → all ≡ None → IsCatting cords cords all
catting_start cords all e = rw e (record { sound = tt; reported = refl; len = omega arith; parts_from = PartsFrom-self (all_parts cords) })

-- one more cord was joined
pub catting_step : (cords : List (Option Node)) (x : Option Node) (rest : List (Option Node)) (all next : Option Node) →
    IsCatting cords (x ∷ rest) all → IsCord next → text next ≡ text all ++ text x → text_len next ≡ text_len all + text_len x →
    PartsFrom (parts_of all ++ parts_of x) (parts_of next) → IsCatting cords rest next
catting_step cords x rest all next i s t l k = record {
  sound = s;
  reported = ap (λ (cs : List Cell). cs ++ all_text rest) t ∙ append_assoc (text all) (text x) (all_text rest) ∙ i.reported;
  len = omega (arith, i.len);
  parts_from = PartsFrom-more (all_parts cords) (parts_of all) (parts_of x) (all_parts rest) (parts_of next) i.parts_from k;
}

-- no cord is left
pub catting_end : (cords : List (Option Node)) (all : Option Node) → IsCatting cords [] all → text all ≡ all_text cords
catting_end cords all i = sym (append-nil (text all)) ∙ i.reported
