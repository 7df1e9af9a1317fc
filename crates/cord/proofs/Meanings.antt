-- What calls on cords make of their meanings. These laws are meant for use above.
use Rattle.std.proofs.Common.{◌≡◌, ℕ, ◌+◌, ◌<◌, ◌≤◌, List, ◌++◌, Option, None, length, get_or, take, drop, refl, sym, ap, subst, ◌∙◌}
use Rattle.std.proofs.Common.{append-nil}
use Rattle.std.specs.Prelude.{OnOk}
use Rattle.std.specs.declared.result.Result.{Result}
use Rattle.std.specs.List.{flat_map, repeat}
use Rattle.std.proofs.lemmas.List.{take_all, take_more}
use Rattle.std.proofs.lemmas.Grind.{flat_map-append}
use Rattle.cord_io.specs.Table.{Table, Lengths, HasLengths}
use Rattle.cord_node.specs.declared.Node.{Node}
use Rattle.cord_core.specs.Cord.{bytes_of, CordFitsIn}
use Rattle.cord_core.specs.Equations.{IsCatOf, IsSubstring}
use Rattle.cord_core.proofs.OverLemmas.{CordFits-reported}
use Rattle.cord.specs.Means.{Means}
use Rattle.cord.specs.Repeats.{IsRepeated}

module _ (ls : Lengths) where
  pub means_repeated : (bytes copies : Table → List ℕ) (n : ℕ) (x c : Option Node) → Means ls bytes x →
      ((t : Table) → copies t ≡ repeat n (bytes t)) → IsRepeated n x c → Means ls copies c
  means_repeated bytes copies n x c m e r = record {
    fits = r.fits ls m.fits;
    text = λ t reported. r.bytes t (CordFits-reported ls t x reported m.fits) ∙ ap (λ (ys : List ℕ). repeat n ys) (m.text t reported) ∙ sym
        (e t);
  }

  pub means_range : (bytes : Table → List ℕ) (i n : ℕ) (x c : Option Node) → Means ls bytes x → IsSubstring i n x c →
      Means ls (λ t. take n (drop i (bytes t))) c
  means_range bytes i n x c m s = record {
    fits = s.fits ls m.fits;
    text = λ t reported. s.bytes t (CordFits-reported ls t x reported m.fits) ∙ ap (λ (ys : List ℕ). take n (drop i ys))
        (m.text t reported);
  }

-- the cord means the first n of the parts, joined in order
pub record Joined {X : Type 0} (ls : Lengths) (bytes : Table → X → List ℕ) (parts : List X) (n : ℕ) (c : Option Node) : Type 0 where
  pub fits : CordFitsIn ls c
  pub text : (t : Table) → HasLengths ls t → bytes_of t c ≡ flat_map (bytes t) (take n parts)

module _ {X : Type 0} {ls : Lengths} {bytes : Table → X → List ℕ} {parts : List X} where
  pub joined_none : {c : Option Node} → c ≡ None → Joined ls bytes parts 0 c
  joined_none e = rw e (record { fits = tt; text = λ t reported. refl })

  pub joined_next : {n : ℕ} {c x e : Option Node} (d : X) → n < length parts → Joined ls bytes parts n c →
      Means ls (λ t. bytes t (get_or parts n d)) x → IsCatOf c x e → Joined ls bytes parts (n + 1) e
  joined_next {n} {c} {x} {e} d lt j m k = record {
    fits = k.fits ls j.fits m.fits;
    text = λ t reported. k.bytes t (CordFits-reported ls t c reported j.fits) (CordFits-reported ls t x reported m.fits)
        ∙ (rw (j.text t reported, m.text t reported, take_more parts n d lt, flat_map-append, append-nil) refl);
  }

  pub joined_all : {n : ℕ} {c : Option Node} → length parts ≤ n → Joined ls bytes parts n c → Means ls (λ t. flat_map (bytes t) parts) c
  joined_all {n} {c} le j = record { fits = j.fits; text = λ t reported. rw (← take_all n parts le) (j.text t reported) }

  -- a range of all parts was written
  pub joined_written : {E : Type 0} {n i m : ℕ} {c range : Option Node} (r : Result Unit E) (old new : List ℕ) (t : Table) →
      length parts ≤ n → Joined ls bytes parts n c → IsSubstring i m c range → HasLengths ls t
      → OnOk r (new ≡ old ++ bytes_of t range) → OnOk r (new ≡ old ++ take m (drop i (flat_map (bytes t) parts)))
  joined_written {i = i} {m = m} {c = c} {range = range} r old new t le j s reported h =
      let mean = means_range ls (λ t. flat_map (bytes t) parts) i m c range (joined_all le j) s in
      subst (λ (xs : List ℕ). OnOk r (new ≡ old ++ xs)) (mean.text t reported) h
