-- A text so many times, by doubling.
use Rattle.std.proofs.Common.{◌≡◌, ◌≢◌, ℕ, zero, suc, ◌+◌, ◌-◌, ◌*◌, ◌/◌, ◌%◌, ◌≤◌, List, ◌++◌, Option, refl, sym, ap, ◌∙◌, arith, append_assoc}
use Rattle.std.proofs.Common.{append-nil}
use Rattle.std.specs.List.{repeat}
use Rattle.std.proofs.Math.Nat.{add-mul, one-mul}
use Rattle.cord_node.specs.declared.Node.{Node}
use Rattle.cord_node.specs.Tables.{lengths_of}
use Rattle.cord_core.specs.Equations.{HasText, IsCatOf}
use Rattle.cord.specs.Plain.{plain_bytes, IsPlain}
use Rattle.cord.specs.Repeats.{IsRepeated}

repeat_add : (m n : ℕ) (xs : List ℕ) → repeat (m + n) xs ≡ repeat m xs ++ repeat n xs
repeat_add zero n xs = let e : zero + n ≡ n = omega arith in ap (λ (k : ℕ). repeat k xs) e
repeat_add (suc m) n xs =
    let e : suc m + n ≡ suc (m + n) = omega arith in
    ap (λ (k : ℕ). repeat k xs) e ∙ ap (λ (ys : List ℕ). xs ++ ys) (repeat_add m n xs) ∙ sym (append_assoc xs (repeat m xs) (repeat n xs))

module _ (n half : ℕ) (x h c : Option Node) where
  pub twice : n ≡ half + half → IsRepeated half x h → IsCatOf h h c → IsRepeated n x c
  twice e r k = record {
    fits = λ ls f. k.fits ls (r.fits ls f) (r.fits ls f);
    bytes = λ t f. k.bytes t (r.fits (lengths_of t) f) (r.fits (lengths_of t) f) ∙ (rw (r.bytes t f, e, repeat_add) refl);
  }

  pub once_more : n ≡ half + 1 → IsRepeated half x h → IsCatOf h x c → IsRepeated n x c
  once_more e r k = record {
    fits = λ ls f. k.fits ls (r.fits ls f) f;
    bytes = λ t f. k.bytes t (r.fits (lengths_of t) f) f ∙ (rw (r.bytes t f, e, repeat_add, append-nil) refl);
  }

-- how many bytes an even and an odd number of texts have, and either at least
module _ (n len : ℕ) where
  pub even_len : n % 2 ≡ 0 → n * len ≡ n / 2 * len + n / 2 * len
  even_len even = let e : n ≡ n / 2 + n / 2 = omega (arith, even) in ap (λ (k : ℕ). k * len) e ∙ add-mul (n / 2) (n / 2) len

  pub odd_len : n % 2 ≢ 0 → n * len ≡ n / 2 * len + n / 2 * len + len
  odd_len odd =
      let e : n ≡ n / 2 + n / 2 + 1 = omega (arith, odd) in
      ap (λ (k : ℕ). k * len) e ∙ add-mul (n / 2 + n / 2) 1 len ∙ (rw (add-mul (n / 2) (n / 2) len, one-mul len) refl)

  pub most_len : n / 2 * len + n / 2 * len ≤ n * len
  most_len =
      let rest = n - (n / 2 + n / 2) in
      let e : n ≡ (n / 2 + n / 2) + rest = omega arith in
      let m : n * len ≡ (n / 2 * len + n / 2 * len) + rest * len =
      ap (λ (k : ℕ). k * len) e ∙ add-mul (n / 2 + n / 2) rest len ∙ ap (λ (k : ℕ). k + rest * len) (add-mul (n / 2) (n / 2) len) in
      omega (arith, m)

-- of a text over no files
pub repeated_has : (n : ℕ) (x c : Option Node) → IsPlain x → IsRepeated n x c → HasText (repeat n (plain_bytes x)) c
repeated_has n x c p k = record {
  fits = λ ls. k.fits ls (p.over.fits ls);
  bytes = λ t. k.bytes t (p.over.fits (lengths_of t)) ∙ ap (λ (ys : List ℕ). repeat n ys) (p.over.bytes t);
}
