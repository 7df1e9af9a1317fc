-- What an equation of cells says over every table.
use Rattle.std.proofs.Common.{◌≡◌, ℕ, ◌+◌, List, [], ◌++◌, map, take, drop, refl, sym, ap, ◌∙◌, subst}
use Rattle.std.specs.Prelude.{Option}
use Rattle.std.proofs.lemmas.List.{map-append, take-map, drop-map}
use Rattle.cord_io.specs.Table.{Table, Lengths}
use Rattle.cord_node.specs.declared.Node.{Node}
use Rattle.cord_node.specs.Tree.{Cell, known}
use Rattle.cord_node.specs.Tables.{byte_at, AreHeldIn}
use Rattle.cord_node.proofs.TableLemmas.{AreHeldIn-append, AreHeldIn-take, AreHeldIn-drop}
use Rattle.cord_core.specs.Cord.{text}
use Rattle.cord_core.proofs.OverLemmas.{AreHeldIn-text, bytes-text}
use Rattle.cord_ec.specs.Grown.{IsGrownBy}
use Rattle.cord_ec.proofs.Growing.{grown_by}
use Rattle.cord_edit.specs.Edits.{edited, IsTextOf, IsEdited, IsEditedByCord}

-- the text of a cord
pub text_of : (xs : List Cell) (c : Option Node) → xs ≡ text c → IsTextOf c xs
text_of xs c e = record {
  fits = λ ls inside. subst (AreHeldIn ls) (sym e) (AreHeldIn-text ls c inside);
  bytes = λ t inside. ap (map (byte_at t)) e ∙ sym (bytes-text t c inside);
}

-- cells that are held by the lengths, in the place of others
held_edited : (ls : Lengths) (start count : ℕ) (ys xs : List Cell) → AreHeldIn ls ys → AreHeldIn ls xs → AreHeldIn ls (edited start count ys xs)
held_edited ls start count ys xs own held = AreHeldIn-append ls (take start xs ++ ys) (drop (start + count) xs)
    (AreHeldIn-append ls (take start xs) ys (AreHeldIn-take ls start xs held) own) (AreHeldIn-drop ls (start + count) xs held)

-- an edit of cells is one of the bytes that they have
over_edited : (t : Table) (start count : ℕ) (ys xs : List Cell) → map (byte_at t) (edited start count ys xs)
    ≡ edited start count (map (byte_at t) ys) (map (byte_at t) xs)
over_edited t start count ys xs = rw (map-append, map-append) (sym (rw (drop-map, take-map) refl))

-- bytes that are known need no source
bytes_known : (b : List ℕ) → IsGrownBy [] (map known b) b
bytes_known b = grown_by [] (map known b) b refl

pub edited_by : (start count : ℕ) (b : List ℕ) (xs ys : List Cell) → ys ≡ edited start count (map known b) xs → IsEdited start count b xs ys
edited_by start count b xs ys e = record {
  fits = λ ls held. subst (AreHeldIn ls) (sym e) (held_edited ls start count (map known b) xs ((bytes_known b).fits ls tt) held);
  bytes = λ t held. ap (map (byte_at t)) e ∙ over_edited t start count (map known b) xs
      ∙ ap (λ (zs : List ℕ). edited start count zs (map (byte_at t) xs)) ((bytes_known b).bytes t tt);
}

pub edited_by_cord : (start count : ℕ) (c : Option Node) (xs ys : List Cell) → ys ≡ edited start count (text c) xs → IsEditedByCord start count c xs ys
edited_by_cord start count c xs ys e = record {
  fits = λ ls held inside. subst (AreHeldIn ls) (sym e) (held_edited ls start count (text c) xs (AreHeldIn-text ls c inside) held);
  bytes = λ t held inside. ap (map (byte_at t)) e ∙ over_edited t start count (text c) xs
      ∙ ap (λ (zs : List ℕ). edited start count zs (map (byte_at t) xs)) (sym (bytes-text t c inside));
}
