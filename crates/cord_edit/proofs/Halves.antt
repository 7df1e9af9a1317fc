-- A text in one cord or in two.
use Rattle.std.proofs.Common.{◌≡◌, ℕ, ◌+◌, ◌-◌, ◌≤◌, List, ◌++◌, length, take, drop, sym, subst, ap, ◌∙◌, arith, length-append}
use Rattle.std.proofs.Math.Seq.{take-append_seam, drop-append_seam}
use Rattle.std.specs.Prelude.{Option, Some, None}
use Rattle.cord_io.specs.declared.TheConstants.{MAX_LEN}
use Rattle.cord_node.specs.declared.Node.{Node}
use Rattle.cord_node.specs.Tree.{Cell}
use Rattle.cord_node.specs.PartsFrom.{Part, AreFrom, PartsFrom}
use Rattle.cord_node.specs.Touched.{touched, AtMostOneMore}
use Rattle.cord_node.proofs.PartsFromLemmas.{AreFrom-append, AreFrom-append_left, AreFrom-self, AreFrom-trans}
use Rattle.cord_node.proofs.SpliceLemmas.{AreFrom-both}
use Rattle.cord_node.proofs.TouchedLemmas.{touched_around}
use Rattle.cord_node.proofs.TreeLemmas.{len_limit}
use Rattle.cord_core.specs.Cord.{text, text_len, parts_of, IsCord}
use Rattle.cord_core.proofs.OverLemmas.{length-text}
use Rattle.cord_core.proofs.Splices.{cut_parts, old_parts, new_parts}
use Rattle.cord_ec.specs.Gathered.{Growth, IsGathered, Gathered}
use Rattle.cord_ec.proofs.Leaves.{gathered_own}
use Rattle.cord_ec.proofs.MadeLemmas.{are_from}
use Rattle.cord_edit.specs.inner.Splices.{growth_of, both_of, spliced as spliced_text, IsCordWith, IsSpliced, AreHalves, IsJoined}
use Rattle.cord_edit.proofs.Parting.{spliced}

-- how long two cords are
pub counted : (prefix back : Option Node) → IsCord prefix → IsCord back → length (text prefix ++ text back) ≡ text_len prefix + text_len back
counted prefix back s t = omega (arith, length-append (text prefix) (text back), length-text prefix s, length-text back t)

cord_limit : (c : Option Node) → IsCord c → text_len c ≤ MAX_LEN
cord_limit None s = omega arith
cord_limit (Some n) s = len_limit n s

-- one cord, and one of no bytes after it
pub one_cord : (c none : Option Node) → IsCord c → none ≡ None →
    (text_len c + text_len none ≤ MAX_LEN) × (length (text c ++ text none) ≡ text_len c + text_len none)
one_cord c none s e =
    let limit : text_len c + 0 ≤ MAX_LEN = omega (arith, cord_limit c s) in
    subst (λ (n : Option Node). (text_len c + text_len n ≤ MAX_LEN) × (length (text c ++ text n) ≡ text_len c + text_len n)) (sym e)
    (limit, counted c None s tt)

-- how many parts there are on both sides of a range
pub halves_few : (from until count : ℕ) (old all prefix back : List Part) → from ≤ until → PartsFrom old all →
    length prefix ≤ touched 0 (0 + from) all → length back ≤ touched until (until + count) all → length prefix + length back ≤ length old + 1
halves_few from until count old all prefix back order p f b =
    let z : 0 + from ≡ from = omega arith in
    let g : length prefix ≤ touched 0 from all = rw z at f in
    omega (arith, g, b, p.no_more, touched_around from until (until + count) all order)

-- the cells on both sides of a seam
before_seam : (first last : List Cell) (n : ℕ) → length first ≡ n → first ≡ take n (first ++ last)
before_seam first last n e = sym (take-append_seam first last) ∙ ap (λ (k : ℕ). take k (first ++ last)) e

after_seam : (first last : List Cell) (n : ℕ) → length first ≡ n → last ≡ drop n (first ++ last)
after_seam first last n e = sym (drop-append_seam first last) ∙ ap (λ (k : ℕ). drop k (first ++ last)) e

-- two cords that are parted at their seam
pub at_seam : (prefix back first last : Option Node) (from until : ℕ) → first ≡ prefix → last ≡ back → IsCord prefix → IsCord back →
    from ≡ until → from ≡ text_len prefix → AreHalves from until (text_len prefix + text_len back) (both_of prefix back) first last
at_seam prefix back first last from until e f s t same here =
    let k : length (text prefix) ≡ from = omega (arith, length-text prefix s) in
    let l : length (text prefix) ≡ until = omega (arith, k) in
    rw (e, f) (record {
      prefix = before_seam (text prefix) (text back) from k;
      back = after_seam (text prefix) (text back) until l;
      prefix_sound = s;
      back_sound = t;
      prefix_len = sym here;
      back_len = omega arith;
      few = omega (arith, length-append (parts_of prefix) (parts_of back));
      prefix_from = old_parts (parts_of prefix) (parts_of back);
      back_from = new_parts (parts_of prefix) (parts_of back);
    })

-- the parts of a text that is put between two halves
between : (old middle prefix back all : List Part) → length prefix + length back ≤ length old + 1 → AreFrom prefix old → AreFrom back old →
    length all ≤ length prefix + length middle + length back → AreFrom all (prefix ++ middle ++ back) → Gathered 1 (old ++ middle) all
between old middle prefix back all few f b least from = spliced old middle all (omega (arith, few, least))
    (cut_parts old middle prefix back all f b from)

-- a text that is put between two cords at their seam
pub put_at_seam : (prefix middle back new : Option Node) (from until : ℕ) → IsCord prefix → from ≡ until → from ≡ text_len prefix →
    IsJoined prefix middle back new → IsCordWith 1 (spliced_text from until (growth_of middle) (both_of prefix back)) new
put_at_seam prefix middle back new from until s same here j =
    let k : length (text prefix) ≡ from = omega (arith, length-text prefix s, here) in
    let l : length (text prefix) ≡ until = omega (arith, k, same) in
    record {
      text = j.text ∙ ap (λ (xs : List Cell). xs ++ text middle ++ text back) (before_seam (text prefix) (text back) from k)
          ∙ ap (λ (xs : List Cell). take from (text prefix ++ text back) ++ text middle ++ xs) (after_seam (text prefix) (text back) until l);
      sound = j.sound;
      gathered = between (parts_of prefix ++ parts_of back) (parts_of middle) (parts_of prefix) (parts_of back) (parts_of new)
          (omega (arith, length-append (parts_of prefix) (parts_of back))) (old_parts (parts_of prefix) (parts_of back))
          (new_parts (parts_of prefix) (parts_of back)) j.few j.from_there;
    }

-- a text is as long as it is seen to be
pub as_long : {old all : Growth} → old ≡ all → length old.text ≡ length all.text
as_long e = ap (λ (g : Growth). length g.text) e

module _ {from until len : ℕ} {all : Growth} {prefix back : Option Node} (h : AreHalves from until len all prefix back) where
  -- how long the halves are together
  pub halves_len : length (text prefix ++ text back) ≡ from + (len - until)
  halves_len = counted prefix back h.prefix_sound h.back_sound ∙ omega (arith, h.prefix_len, h.back_len)

  -- the text without what was between them
  pub halves_text : text prefix ++ text back ≡ take from all.text ++ drop until all.text
  halves_text = ap (λ (xs : List Cell). xs ++ text back) h.prefix ∙ ap (λ (xs : List Cell). take from all.text ++ xs) h.back

  pub halves_parts : Gathered 1 all.parts (parts_of prefix ++ parts_of back)
  halves_parts = record {
    no_more = omega (arith, h.few, length-append (parts_of prefix) (parts_of back));
    from_there = are_from IsGathered gathered_own (parts_of prefix ++ parts_of back) all.parts
        (AreFrom-append (parts_of prefix) (parts_of back) all.parts h.prefix_from h.back_from);
  }

  -- another text between them, in one cord
  pub put_between : {middle new : Option Node} → IsJoined prefix middle back new → IsCordWith 1 (spliced_text from until (growth_of middle) all) new
  put_between {middle} {new} j = record {
    text = j.text ∙ ap (λ (xs : List Cell). xs ++ text middle ++ text back) h.prefix
        ∙ ap (λ (xs : List Cell). take from all.text ++ text middle ++ xs) h.back;
    sound = j.sound;
    gathered = between all.parts (parts_of middle) (parts_of prefix) (parts_of back) (parts_of new) h.few h.prefix_from h.back_from j.few
        j.from_there;
  }

  -- or at the end of the first one
  pub put_after : (middle longer : Option Node) → length all.text ≡ len → text longer ≡ text prefix ++ text middle → IsCord longer →
      text_len longer ≡ text_len prefix + text_len middle → PartsFrom (parts_of prefix ++ parts_of middle) (parts_of longer) →
      IsSpliced from until (growth_of middle) (text_len middle) all (both_of longer back)
  put_after middle longer whole t s n k = record {
    text = ap (λ (xs : List Cell). xs ++ text back) (t ∙ ap (λ (xs : List Cell). xs ++ text middle) h.prefix)
        ∙ ap (λ (xs : List Cell). take from all.text ++ text middle ++ xs) h.back;
    len = counted longer back s h.back_sound ∙ omega (arith, whole, n, h.prefix_len, h.back_len);
    gathered = between all.parts (parts_of middle) (parts_of prefix) (parts_of back) (parts_of longer ++ parts_of back) h.few h.prefix_from
        h.back_from
        (omega (arith, k.no_more, length-append (parts_of longer) (parts_of back), length-append (parts_of prefix) (parts_of middle)))
        (AreFrom-both (parts_of prefix ++ parts_of middle) (parts_of back) (parts_of longer) (parts_of back) k.from_there
        (AreFrom-self (parts_of back)));
  }

-- a text that is put into the first of two
pub put_in_prefix : (prefix back middle new : List Part) → AtMostOneMore prefix middle new → AreFrom new (prefix ++ middle) →
    Gathered 1 (prefix ++ back ++ middle) (new ++ back)
put_in_prefix prefix back middle new few from = record {
  no_more = omega (arith, few, length-append new back, length-append (prefix ++ back) middle, length-append prefix back);
  from_there = are_from IsGathered gathered_own (new ++ back) (prefix ++ back ++ middle)
      (AreFrom-append new back (prefix ++ back ++ middle)
      (AreFrom-trans new (prefix ++ middle) (prefix ++ back ++ middle) from
      (AreFrom-append prefix middle (prefix ++ back ++ middle)
      (AreFrom-append_left prefix (prefix ++ back) middle (old_parts prefix back)) (new_parts (prefix ++ back) middle)))
      (AreFrom-append_left back (prefix ++ back) middle (new_parts prefix back)));
}

-- and into both, joined before
pub put_in_all : (old middle all new : List Part) → PartsFrom old all → AtMostOneMore all middle new → AreFrom new (all ++ middle) →
    Gathered 1 (old ++ middle) new
put_in_all old middle all new k few from = spliced old middle new (omega (arith, few, k.no_more))
    (AreFrom-trans new (all ++ middle) (old ++ middle) from (AreFrom-both old middle all middle k.from_there (AreFrom-self middle)))
