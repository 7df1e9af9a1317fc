-- What an equation of cells says over every table.
use Rattle.std.proofs.Common.{◌≡◌, ℕ, List, [], ◌∷◌, ◌++◌, map, refl, sym, ap, ◌∙◌, subst}
use Rattle.std.specs.Prelude.{Option}
use Rattle.std.proofs.lemmas.List.{map-append}
use Rattle.cord_io.specs.Table.{Table, Lengths}
use Rattle.cord_node.specs.declared.Node.{Node}
use Rattle.cord_node.specs.Tree.{Cell, known}
use Rattle.cord_node.specs.Tables.{lengths_of, byte_at, AreHeldIn}
use Rattle.cord_node.proofs.TableLemmas.{AreHeldIn-append}
use Rattle.cord_core.specs.Cord.{text, IsCord}
use Rattle.cord_core.proofs.OverLemmas.{AreHeldIn-text, CordFitsIn-text, bytes-text}
use Rattle.cord_ec.specs.Grown.{IsGrownBy, IsGrownByCord, IsCordOf}

-- bytes that are known need no source
known_held : (ls : Lengths) (b : List ℕ) → AreHeldIn ls (map known b)
known_held ls [] = tt
known_held ls (x ∷ b) = (tt, known_held ls b)

-- and are the same over every table
known_over : (t : Table) (b : List ℕ) → map (byte_at t) (map known b) ≡ b
known_over t [] = refl
known_over t (x ∷ b) = ap (λ ys. x ∷ ys) (known_over t b)

pub grown_by : (xs ys : List Cell) (b : List ℕ) → ys ≡ xs ++ map known b → IsGrownBy xs ys b
grown_by xs ys b e = record {
  fits = λ ls held. subst (AreHeldIn ls) (sym e) (AreHeldIn-append ls xs (map known b) held (known_held ls b));
  bytes = λ t held. ap (map (byte_at t)) e ∙ map-append (byte_at t) xs (map known b) ∙ ap (λ zs. map (byte_at t) xs ++ zs) (known_over t b);
}

pub grown_by_cord : (xs ys : List Cell) (c : Option Node) → ys ≡ xs ++ text c → IsGrownByCord xs ys c
grown_by_cord xs ys c e = record {
  fits = λ ls held inside. subst (AreHeldIn ls) (sym e) (AreHeldIn-append ls xs (text c) held (AreHeldIn-text ls c inside));
  bytes = λ t held inside. ap (map (byte_at t)) e ∙ map-append (byte_at t) xs (text c)
      ∙ ap (λ zs. map (byte_at t) xs ++ zs) (sym (bytes-text t c inside));
}

pub cord_of : (xs : List Cell) (c : Option Node) → IsCord c → text c ≡ xs → IsCordOf xs c
cord_of xs c sound e =
    let inside = λ (ls : Lengths) (held : AreHeldIn ls xs). CordFitsIn-text ls c sound (subst (AreHeldIn ls) (sym e) held) in
    record {
      fits = inside;
      bytes = λ t held. bytes-text t c (inside (lengths_of t) held) ∙ ap (map (byte_at t)) e;
    }
