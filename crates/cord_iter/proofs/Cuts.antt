-- Walks over a text in pieces, over the tables of a source.
use Rattle.cord_iter.proofs.Common.{Bool, Cat', Err, FileSystem, Global, HasLengths, IsErr, IsSound, Lengths, List, Node, Ok, OnErr, Part, Rc, Result}
use Rattle.cord_iter.proofs.Common.{Some, Table, WalkedPrefix, Walks, [], ap, arith, bytes_over, drop, false, false≢true, len_of, length}
use Rattle.cord_iter.proofs.Common.{length-bytes, on_err_weaker, raised, refl, subst, sym, take, true, walk, ℕ, ◌++◌, ◌+◌, ◌-◌, ◌∙◌, ◌≡◌, ◌≤◌}
use Rattle.std.proofs.lemmas.List.{drop-append-le}
use Rattle.std.proofs.lemmas.Result.{IfOk-weaker}
use Rattle.std.specs.Result.{IfOk}
use Rattle.cord_io.specs.Frames.{LeavesSource}
use Rattle.cord_io.specs.declared.sources.Source.{Ghosts}
use Rattle.cord_node.proofs.Ranges.{drop-append_right}
use Rattle.cord_node.proofs.TableLemmas.{Fits-reported}
use Rattle.cord_node.specs.Tables.{FitsIn}
use Rattle.cord_iter.proofs.Walks.{prefix_first, prefix_second, range_next, range_split, walk_on, walk_stop}

-- a text over a source is one and then another
pub record IsSplit {S : Type 0} (s : Ghosts S) (old : S) (text left right : Table → List ℕ) : Type 0 where
  pub parts : (file_system : FileSystem) → s.consistent old file_system →
      text (s.table old file_system) ≡ left (s.table old file_system) ++ right (s.table old file_system)

module _ {S : Type 0} {s : Ghosts S} {old : S} where
  -- so is a range of a source: what is before a place of it, and what comes next
  pub range_on : (source : Table → List ℕ) (start done count : ℕ) → IsSplit s old (λ t. take (done + count) (drop start (source t)))
      (λ t. take done (drop start (source t))) (λ t. take count (drop (start + done) (source t)))
  range_on source start done count =
      record { parts = λ file_system _. range_next (source (s.table old file_system)) start done count }

  -- or the rest
  pub range_cut : (source : Table → List ℕ) (start done len : ℕ) → done ≤ len → IsSplit s old (λ t. take len (drop start (source t)))
      (λ t. take done (drop start (source t))) (λ t. take (len - done) (drop (start + done) (source t)))
  range_cut source start done len inside =
      record { parts = λ file_system _. range_split (source (s.table old file_system)) start done len inside }

-- a source was left as it was, twice
pub left_both : {S : Type 0} (s : Ghosts S) (old mid new : S) → LeavesSource s old mid → LeavesSource s mid new → LeavesSource s old new
left_both s old mid new first second = record {
  lengths = second.lengths ∙ first.lengths;
  table = second.table ∙ first.table;
  earlier = λ file_system agrees. first.earlier file_system (second.earlier file_system agrees);
}

-- the text of a concatenation from a place in its left side on, and from one in its right side on
pub record IsCut (t : Table) (l r n : Node) (from : ℕ) : Type 0 where
  pub in_left : from ≤ len_of l → drop from (bytes_over t n) ≡ drop from (bytes_over t l) ++ bytes_over t r
  pub in_right : len_of l ≤ from → drop (from - len_of l) (bytes_over t r) ≡ drop from (bytes_over t n)

pub cut_of : (ls : Lengths) (t : Table) (p : Rc (Unit {0}) Global) (l : Node) (q : Rc (Unit {0}) Global) (r : Node) (len depth count : ℕ)
    (mark : List Part) (n : Node) (from : ℕ) → n ≡ Cat' mark depth len p l q r count → IsSound n → FitsIn ls n → HasLengths ls t →
    IsCut t l r n from
cut_of ls t p l q r len depth count mark n from e s f reported =
    let sound : IsSound (Cat' mark depth len p l q r count) = rw e at s in
    let fits : FitsIn ls (Cat' mark depth len p l q r count) = rw e at f in
    let long : len_of l ≡ length (bytes_over t l) = length-bytes t (Some l) sound.0 (Fits-reported ls t l reported fits.0) in
    rw e (record {
      in_left = λ h. drop-append-le from (bytes_over t l) (bytes_over t r) (omega (arith, h, long));
      in_right = λ h. rw long (sym (drop-append_right (bytes_over t l) (bytes_over t r) from (omega (arith, h, long))));
    })

module _ {S V E : Type 0} {s : Ghosts S} {step : V → ℕ → V × Bool} where
  -- a walk over bytes that were read, and over what is read of no source
  pub walked_over : {text : Table → List ℕ} {old new : S} {a b : V} {stopped : Bool} → ((file_system : FileSystem) →
      s.consistent new file_system → walk step a (text (s.table old file_system)) ≡ (b, stopped)) → s.failures new ≡ s.failures old →
      LeavesSource s old new → Walks {E = E} s step text old new a b (Ok stopped)
  walked_over h count source = record { walked = h; prefix = λ file_system agrees. tt; count = count; source = source }

  pub walked_here : {text : Table → List ℕ} {old : S} {a b : V} {stopped : Bool} → ((file_system : FileSystem) →
      s.consistent old file_system → walk step a (text (s.table old file_system)) ≡ (b, stopped)) →
      Walks {E = E} s step text old old a b (Ok stopped)
  walked_here h = walked_over h refl (record { lengths = refl; table = refl; earlier = λ file_system agrees. agrees })

  -- nothing was read
  pub walked_none : {text : Table → List ℕ} {old new : S} {a : V} {r : Result Bool E} → IsErr r →
      s.failures new ≡ raised (s.failures old) → LeavesSource s old new → Walks s step text old new a a r
  walked_none {r = Ok x} is count source = absurd (false≢true is)
  walked_none {text} {old} {r = Err e} is count source = record {
    walked = λ file_system agrees. tt;
    prefix = λ file_system agrees. record { prefix = []; rest = text (s.table old file_system); split = refl; walked = refl };
    count = count;
    source = source;
  }

  module _ {text : Table → List ℕ} {old new : S} {a b : V} where
    -- the text in another spelling
    pub same_text : {other : Table → List ℕ} {r : Result Bool E} → Walks s step other old new a b r → ((file_system : FileSystem) →
        s.consistent old file_system → other (s.table old file_system) ≡ text (s.table old file_system)) →
        Walks s step text old new a b r
    same_text {r = r} w e = record {
      walked = λ file_system agrees. subst (λ xs. IfOk r (λ stopped. walk step a xs ≡ (b, stopped)))
          (e file_system (w.source.earlier file_system agrees)) (w.walked file_system agrees);
      prefix = λ file_system agrees. subst (λ xs. OnErr r (WalkedPrefix step a b xs))
          (e file_system (w.source.earlier file_system agrees)) (w.prefix file_system agrees);
      count = w.count;
      source = w.source;
    }

    module _ {left right : Table → List ℕ} (split : IsSplit s old text left right) where
      -- it stopped in the first part of the text
      pub stopped_first : Walks {E = E} s step left old new a b (Ok true) → Walks {E = E} s step text old new a b (Ok true)
      stopped_first w = walked_over (λ file_system agrees.
          let t = s.table old file_system in
          ap (λ xs. walk step a xs) (split.parts file_system (w.source.earlier file_system agrees))
          ∙ walk_stop step a b (left t) (right t) (w.walked file_system agrees)) w.count w.source

      -- that could not be read to its end
      pub failed_first : {e : E} {r : Result Bool E} → IsErr r → Walks s step left old new a b (Err e) → Walks s step text old new a b r
      failed_first {r = Ok x} is w = absurd (false≢true is)
      failed_first {r = Err e} is w = record {
        walked = λ file_system agrees. tt;
        prefix = λ file_system agrees.
            let t = s.table old file_system in
            prefix_first step a b (text t) (left t) (right t) (split.parts file_system (w.source.earlier file_system agrees))
            (w.prefix file_system agrees);
        count = w.count;
        source = w.source;
      }

      -- it goes on in the second part
      pub then_second : {mid : S} {m : V} {r : Result Bool E} → Walks {E = E} s step left old mid a m (Ok false) →
          Walks s step right mid new m b r → Walks s step text old new a b r
      then_second {mid} {m} {r} w v = record {
        walked = λ file_system agrees.
            let t = s.table old file_system in
            let before = v.source.earlier file_system agrees in
            let on : IfOk r (λ stopped. walk step m (right t) ≡ (b, stopped)) = rw w.source.table at v.walked file_system agrees in
            IfOk-weaker r _ _ (λ stopped on. ap (λ xs. walk step a xs) (split.parts file_system (w.source.earlier file_system before))
            ∙ walk_on step a m (b, stopped) (left t) (right t) (w.walked file_system before) on) on;
        prefix = λ file_system agrees.
            let t = s.table old file_system in
            let before = v.source.earlier file_system agrees in
            let some : OnErr r (WalkedPrefix step m b (right t)) = rw w.source.table at v.prefix file_system agrees in
            on_err_weaker r (λ prefix. prefix_second step a m b (text t) (left t) (right t)
            (split.parts file_system (w.source.earlier file_system before)) (w.walked file_system before) prefix) some;
        count = rw w.count at v.count;
        source = left_both s old mid new w.source v.source;
      }
