-- The text of a list of nodes over a table.
use Rattle.std.proofs.Common.{◌≡◌, List, [], ◌∷◌, map, refl, ◌∙◌}
use Rattle.std.proofs.lemmas.List.{map-append}
use Rattle.cord_io.specs.Table.{Table, Lengths}
use Rattle.cord_node.specs.declared.Node.{Node}
use Rattle.cord_node.specs.Tree.{cells, IsSound}
use Rattle.cord_node.specs.Tables.{FitsIn, lengths_of, byte_at, AreHeldIn}
use Rattle.cord_node.proofs.TableLemmas.{bytes-cells, AreHeldIn-append, AreHeldIn-cells, FitsIn-cells}
use Rattle.cord_balance.specs.Pieces.{Shared, all_cells, AllFitIn, all_bytes, AreJoinedOver}

-- the cells of nodes that all fit are held
AreHeldIn-all_cells : (ls : Lengths) (xs : List Shared) → AllFitIn ls xs → AreHeldIn ls (all_cells xs)
AreHeldIn-all_cells ls [] f = tt
AreHeldIn-all_cells ls (x ∷ xs) f = AreHeldIn-append ls (cells x.value) (all_cells xs) (AreHeldIn-cells ls x.value f.0)
    (AreHeldIn-all_cells ls xs f.1)

-- their texts over a table are those of their cells
bytes-all_cells : (t : Table) (xs : List Shared) → AllFitIn (lengths_of t) xs → all_bytes t xs ≡ map (byte_at t) (all_cells xs)
bytes-all_cells t [] f = refl
bytes-all_cells t (x ∷ xs) f = rw (map-append, bytes-cells t x.value f.0, bytes-all_cells t xs f.1) refl

-- what has the cells of all in order has their texts over each table
pub joined_over : (xs : List Shared) (n : Node) → IsSound n → cells n ≡ all_cells xs → AreJoinedOver xs n
joined_over xs n s e =
    let fits : (ls : Lengths) → AllFitIn ls xs → FitsIn ls n = λ ls f. FitsIn-cells ls n s (rw e (AreHeldIn-all_cells ls xs f)) in
    record {
      fits = fits;
      bytes = λ t f. bytes-cells t n (fits (lengths_of t) f) ∙ (rw (e, bytes-all_cells t xs f) refl);
    }
