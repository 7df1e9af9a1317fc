-- What is made of texts over no files is one.
use Rattle.std.proofs.Common.{◌≡◌, ℕ, ◌+◌, ◌-◌, ◌≤◌, List, [], ◌++◌, length, take, drop, refl, ◌∙◌, sym, ap, arith}
use Rattle.std.specs.Prelude.{Option, Some, None, min}
use Rattle.cord_io.specs.declared.TheConstants.{MAX_LEN}
use Rattle.cord_node.proofs.TreeLemmas.{len_limit}
use Rattle.std.proofs.lemmas.List.{length-append, length-take, length-drop}
use Rattle.cord_node.specs.declared.Node.{Node}
use Rattle.cord_node.specs.Tables.{lengths_of}
use Rattle.cord_core.specs.Cord.{text_len, IsCord}
use Rattle.cord_core.specs.Equations.{HasText, IsSameText, IsCatOf, IsAppended, IsSubstring, IsSpliced}
use Rattle.cord_core.proofs.OverLemmas.{length-bytes}
use Rattle.cord.specs.Plain.{no_table, plain_bytes, IsPlain}

-- what has the same bytes over every table
pub plain_of : (b : List ℕ) (c : Option Node) → IsCord c → HasText b c → IsPlain c
plain_of b c s h = record {
  sound = s;
  len = length-bytes no_table c s (h.fits (lengths_of no_table));
  over = record { fits = h.fits; bytes = λ t. h.bytes t ∙ sym (h.bytes no_table) };
}

-- it stores its length
pub plain_len : (c : Option Node) (x : List ℕ) → IsPlain c → plain_bytes c ≡ x → text_len c ≡ length x
plain_len c x p is = p.len ∙ ap (λ (y : List ℕ). length y) is

-- one text and then another
pub cat_has : (x y c : Option Node) → IsPlain x → IsPlain y → IsCatOf x y c → HasText (plain_bytes x ++ plain_bytes y) c
cat_has x y c p q k = record {
  fits = λ ls. k.fits ls (p.over.fits ls) (q.over.fits ls);
  bytes = λ t. k.bytes t (p.over.fits (lengths_of t)) (q.over.fits (lengths_of t)) ∙ (rw (p.over.bytes t, q.over.bytes t) refl);
}

-- a text and then some bytes
pub appended_has : (x : Option Node) (b : List ℕ) (c : Option Node) → IsPlain x → IsAppended x b c → HasText (plain_bytes x ++ b) c
appended_has x b c p k = record {
  fits = λ ls. k.fits ls (p.over.fits ls);
  bytes = λ t. k.bytes t (p.over.fits (lengths_of t)) ∙ (rw (p.over.bytes t) refl);
}

-- a range of a text
pub substring_has : (i n : ℕ) (x c : Option Node) → IsPlain x → IsSubstring i n x c → HasText (take n (drop i (plain_bytes x))) c
substring_has i n x c p k = record {
  fits = λ ls. k.fits ls (p.over.fits ls);
  bytes = λ t. k.bytes t (p.over.fits (lengths_of t)) ∙ (rw (p.over.bytes t) refl);
}

-- a text in the place of a range of another
pub spliced_has : (i n : ℕ) (x y c : Option Node) → IsPlain x → IsPlain y → IsSpliced i n x y c →
    HasText (take i (plain_bytes x) ++ plain_bytes y ++ drop (i + n) (plain_bytes x)) c
spliced_has i n x y c p q k = record {
  fits = λ ls. k.fits ls (p.over.fits ls) (q.over.fits ls);
  bytes = λ t. k.bytes t (p.over.fits (lengths_of t)) (q.over.fits (lengths_of t)) ∙ (rw (p.over.bytes t, q.over.bytes t) refl);
}

-- its length
pub spliced_len : (xs ys : List ℕ) (i n : ℕ) →
    length (take i xs ++ ys ++ drop (i + n) xs) ≡ min i (length xs) + length ys + (length xs - (i + n))
spliced_len xs ys i n = rw (length-append, length-append, length-take, length-drop) refl

-- the same text
pub same_has : (x c : Option Node) → IsPlain x → IsSameText x c → HasText (plain_bytes x) c
same_has x c p k = record {
  fits = λ ls. k.fits ls (p.over.fits ls);
  bytes = λ t. k.bytes t (p.over.fits (lengths_of t)) ∙ p.over.bytes t;
}

-- no text is longer than a cord can be
pub plain_limit : (c : Option Node) → IsPlain c → length (plain_bytes c) ≤ MAX_LEN
plain_limit None p = omega arith
plain_limit (Some n) p = omega (arith, p.len, len_limit n p.sound)

-- so what is left of it isn't either
pub rest_limit : (xs : List ℕ) (i n : ℕ) → length xs ≤ MAX_LEN → length (take i xs ++ [] ++ drop (i + n) xs) ≤ MAX_LEN
rest_limit xs i n le = omega (arith, le, spliced_len xs [] i n)
