-- The text of a cord over a table is that of its cells. These laws are meant for use above too.
use Rattle.std.proofs.Common.{◌≡◌, ℕ, ◌+◌, ◌≤◌, List, [], ◌∷◌, ◌++◌, length, map, take, drop, refl, ◌∙◌, sym, ap}
use Rattle.std.specs.Prelude.{Option, Some, None}
use Rattle.std.proofs.lemmas.List.{map-append, take-map, drop-map, length-map}
use Rattle.cord_io.specs.Table.{Table, Lengths, length_at, HasLengths}
use Rattle.cord_node.specs.declared.Node.{Node}
use Rattle.cord_node.specs.Tables.{lengths_of, byte_at, AreHeldIn}
use Rattle.cord_node.proofs.TreeLemmas.{length-cells}
use Rattle.cord_node.proofs.TableLemmas.{bytes-cells, AreHeldIn-append, AreHeldIn-cells, AreHeldIn-take, AreHeldIn-drop, FitsIn-cells}
use Rattle.cord_node.proofs.TableLemmas.{FitsIn-longer, Fits-reported}
use Rattle.cord_core.specs.Cord.{text, text_len, IsCord, bytes_of, CordFitsIn, CordFits, all_text, all_bytes, AllFitIn}
use Rattle.cord_core.specs.Equations.{HasText, IsSameText, IsCatOf, IsAppended, IsAllOf, IsSubstring, IsSpliced}

-- the cells of a cord that fits are held
pub AreHeldIn-text : (ls : Lengths) (c : Option Node) → CordFitsIn ls c → AreHeldIn ls (text c)
AreHeldIn-text ls None f = tt
AreHeldIn-text ls (Some n) f = AreHeldIn-cells ls n f

-- a cord fits where its cells are held
pub CordFitsIn-text : (ls : Lengths) (c : Option Node) → IsCord c → AreHeldIn ls (text c) → CordFitsIn ls c
CordFitsIn-text ls None s h = tt
CordFitsIn-text ls (Some n) s h = FitsIn-cells ls n s h

-- its text over a table is that of its cells
pub bytes-text : (t : Table) (c : Option Node) → CordFits t c → bytes_of t c ≡ map (byte_at t) (text c)
bytes-text t None f = refl
bytes-text t (Some n) f = bytes-cells t n f

-- a cord stores the length of its text
pub length-text : (c : Option Node) → IsCord c → length (text c) ≡ text_len c
length-text None s = refl
length-text (Some n) s = length-cells n s

-- and of its text over each table that it fits
pub length-bytes : (t : Table) (c : Option Node) → IsCord c → CordFits t c → text_len c ≡ length (bytes_of t c)
length-bytes t c s f = sym (rw (bytes-text t c f, length-map) (length-text c s))

-- what has the same cells has the same text over each table
pub same_over : (x c : Option Node) → IsCord c → text c ≡ text x → IsSameText x c
same_over x c s e =
    let fits : (ls : Lengths) → CordFitsIn ls x → CordFitsIn ls c = λ ls f. CordFitsIn-text ls c s (rw e (AreHeldIn-text ls x f)) in
    record {
      fits = fits;
      bytes = λ t f. bytes-text t c (fits (lengths_of t) f) ∙ ap (map (byte_at t)) e ∙ sym (bytes-text t x f);
    }

-- what has the cells of two has both texts in order
pub cat_over : (x y c : Option Node) → IsCord c → text c ≡ text x ++ text y → IsCatOf x y c
cat_over x y c s e =
    let fits : (ls : Lengths) → CordFitsIn ls x → CordFitsIn ls y → CordFitsIn ls c =
    λ ls f g. CordFitsIn-text ls c s (rw e (AreHeldIn-append ls (text x) (text y) (AreHeldIn-text ls x f) (AreHeldIn-text ls y g))) in
    record {
      fits = fits;
      bytes = λ t f g. bytes-text t c (fits (lengths_of t) f g) ∙ (rw (e, map-append, bytes-text t x f, bytes-text t y g) refl);
    }

-- with a cord that fits every table
pub appended_over : (x y c : Option Node) (b : List ℕ) → HasText b y → IsCatOf x y c → IsAppended x b c
appended_over x y c b h k = record {
  fits = λ ls f. k.fits ls f (h.fits ls);
  bytes = λ t f. k.bytes t f (h.fits (lengths_of t)) ∙ ap (λ (ys : List ℕ). bytes_of t x ++ ys) (h.bytes t);
}

-- what has a range of the cells has that range of the text
pub substring_over : (i n : ℕ) (x c : Option Node) → IsCord c → text c ≡ take n (drop i (text x)) → IsSubstring i n x c
substring_over i n x c s e =
    let fits : (ls : Lengths) → CordFitsIn ls x → CordFitsIn ls c =
    λ ls f. CordFitsIn-text ls c s (rw e (AreHeldIn-take ls n (drop i (text x)) (AreHeldIn-drop ls i (text x) (AreHeldIn-text ls x f)))) in
    record {
      fits = fits;
      bytes = λ t f. bytes-text t c (fits (lengths_of t) f) ∙ (rw (e, bytes-text t x f) (sym (rw (drop-map, take-map) refl)));
    }

-- what has the cells of one in the place of a range of another
pub spliced_over : (i n : ℕ) (x y c : Option Node) → IsCord c → text c ≡ take i (text x) ++ text y ++ drop (i + n) (text x) →
    IsSpliced i n x y c
spliced_over i n x y c s e =
    let fits : (ls : Lengths) → CordFitsIn ls x → CordFitsIn ls y → CordFitsIn ls c =
    λ ls f g. CordFitsIn-text ls c s (rw e (AreHeldIn-append ls (take i (text x) ++ text y) (drop (i + n) (text x))
    (AreHeldIn-append ls (take i (text x)) (text y) (AreHeldIn-take ls i (text x) (AreHeldIn-text ls x f)) (AreHeldIn-text ls y g))
    (AreHeldIn-drop ls (i + n) (text x) (AreHeldIn-text ls x f)))) in
    record {
      fits = fits;
      bytes = λ t f g. bytes-text t c (fits (lengths_of t) f g) ∙ (rw (e, map-append, map-append, bytes-text t x f, bytes-text t y g)
          (sym (rw (drop-map, take-map) refl)));
    }

-- the cells of cords that all fit are held
AreHeldIn-all_text : (ls : Lengths) (xs : List (Option Node)) → AllFitIn ls xs → AreHeldIn ls (all_text xs)
AreHeldIn-all_text ls [] f = tt
AreHeldIn-all_text ls (x ∷ xs) f = AreHeldIn-append ls (text x) (all_text xs) (AreHeldIn-text ls x f.0) (AreHeldIn-all_text ls xs f.1)

-- their texts over a table are those of their cells
bytes-all_text : (t : Table) (xs : List (Option Node)) → AllFitIn (lengths_of t) xs → all_bytes t xs ≡ map (byte_at t) (all_text xs)
bytes-all_text t [] f = refl
bytes-all_text t (x ∷ xs) f = rw (map-append, bytes-text t x f.0, bytes-all_text t xs f.1) refl

-- what has the cells of all has their texts in order
pub all_over : (xs : List (Option Node)) (c : Option Node) → IsCord c → text c ≡ all_text xs → IsAllOf xs c
all_over xs c s e =
    let fits : (ls : Lengths) → AllFitIn ls xs → CordFitsIn ls c = λ ls f. CordFitsIn-text ls c s (rw e (AreHeldIn-all_text ls xs f)) in
    record {
      fits = fits;
      bytes = λ t f. bytes-text t c (fits (lengths_of t) f) ∙ (rw (e, bytes-all_text t xs f) refl);
    }

-- where no source is shorter, what fitted fits
pub CordFitsIn-longer : (ls ms : Lengths) (c : Option Node) → ((id : ℕ) → length_at ls id ≤ length_at ms id) → CordFitsIn ls c →
    CordFitsIn ms c
CordFitsIn-longer ls ms None h f = tt
CordFitsIn-longer ls ms (Some n) h f = FitsIn-longer ls ms n h f

-- what fits the lengths that are reported of a table fits the table
pub CordFits-reported : (ls : Lengths) (t : Table) (c : Option Node) → HasLengths ls t → CordFitsIn ls c → CordFits t c
CordFits-reported ls t None h f = tt
CordFits-reported ls t (Some n) h f = Fits-reported ls t n h f
