-- Lists with a gap.
use Rattle.std.proofs.Common.{◌≡◌, ℕ, zero, suc, ◌+◌, ◌-◌, ◌≤◌, List, [], ◌∷◌, ◌++◌, length, map, take, drop, refl, sym, ap, ◌∙◌, arith}
use Rattle.std.proofs.Common.{append_assoc, append-nil, take-append-drop, length-append}
use Rattle.std.specs.Prelude.{min, slice_range}
use Rattle.std.proofs.lemmas.List.{length-take-le, take_at, take_all, drop_at, drop_all, drop-append-le, drop-drop, take_min, drop_min}
use Rattle.std.proofs.lemmas.Slice.{between_is, take-put_mid}
use borrow.Rule.Slice.PartMut.{put_mid, post_of}
use Rattle.cord_node.specs.Tree.{Cell, known}
use Rattle.cord_edit.specs.Edits.{edited}

module _ {X : Type 0} where
  -- the prefix of two lists, and what is after it
  take_both : (n : ℕ) (xs ys : List X) → take n (xs ++ ys) ≡ take n xs ++ take (n - length xs) ys
  take_both zero xs ys = let e : 0 - length xs ≡ 0 = omega arith in rw e refl
  take_both (suc n) [] ys = let e : suc n - 0 ≡ suc n = omega arith in rw e refl
  take_both (suc n) (x ∷ xs) ys =
      let e : suc n - suc (length xs) ≡ n - length xs = omega arith in
      rw e (ap (λ (zs : List X). x ∷ zs) (take_both n xs ys))

  drop_both : (n : ℕ) (xs ys : List X) → drop n (xs ++ ys) ≡ drop n xs ++ drop (n - length xs) ys
  drop_both zero xs ys = let e : 0 - length xs ≡ 0 = omega arith in rw e refl
  drop_both (suc n) [] ys = let e : suc n - 0 ≡ suc n = omega arith in rw e refl
  drop_both (suc n) (x ∷ xs) ys = let e : suc n - suc (length xs) ≡ n - length xs = omega arith in rw e (drop_both n xs ys)

  take_twice : (m n : ℕ) (xs : List X) → take m (take n xs) ≡ take (min n m) xs
  take_twice zero n xs = let e : min n 0 ≡ 0 = omega arith in rw e refl
  take_twice (suc m) zero xs = let e : min 0 (suc m) ≡ 0 = omega arith in rw e refl
  take_twice (suc m) (suc n) [] = let e : min (suc n) (suc m) ≡ suc (min n m) = omega arith in rw e refl
  take_twice (suc m) (suc n) (x ∷ xs) =
      let e : min (suc n) (suc m) ≡ suc (min n m) = omega arith in
      rw e (ap (λ (zs : List X). x ∷ zs) (take_twice m n xs))

  -- bytes that were written after a range, and in front of it
  pub range_longer : (xs b : List X) (start end n : ℕ) → start ≤ end → end ≤ length xs → n ≡ length b →
      slice_range (put_mid end n xs b) start (end + n) ≡ slice_range xs start end ++ b
  range_longer xs b start end n o i e =
      let k : end + n ≡ end + length b = omega arith in
      let s : start ≤ length (take end xs) = rw (length-take-le end xs i) o in
      between_is (put_mid end n xs b) start (end + n)
      ∙ ap (drop start) (take-put_mid end n xs b (end + n) k i)
      ∙ drop-append-le start (take end xs) b s
      ∙ ap (λ (ys : List X). ys ++ b) (sym (between_is xs start end))

  pub range_earlier : (xs b : List X) (start first end n : ℕ) → start ≡ first + n → start ≤ end → end ≤ length xs → n ≡ length b →
      slice_range (put_mid first n xs b) first end ≡ b ++ slice_range xs start end
  range_earlier xs b start first end n s o i e =
      let within : first ≤ length xs = omega (arith, s, o, i) in
      let rest : drop first (put_mid first n xs b) ≡ b ++ post_of first n xs =
      drop_at (take first xs) (b ++ post_of first n xs) first (length-take-le first xs within) in
      let after : post_of first n xs ≡ drop start xs = drop-drop n first xs ∙ ap (λ (k : ℕ). drop k xs) (sym s) in
      let all : take (end - first) b ≡ b = take_all (end - first) b (omega (arith, s, o, e)) in
      let left : end - first - length b ≡ end - start = omega (arith, s, o, e) in
      ap (take (end - first)) (rest ∙ ap (λ (ys : List X). b ++ ys) after)
      ∙ take_both (end - first) b (drop start xs)
      ∙ ap (λ (ys : List X). ys ++ take (end - first - length b) (drop start xs)) all
      ∙ ap (λ (k : ℕ). b ++ take k (drop start xs)) left

  -- an insert after the gap's bytes g, and one in front of them
  pub inserted_after : (f g b d : List X) (at : ℕ) → at ≡ length f + length g → f ++ (g ++ b) ++ d ≡ edited at 0 b (f ++ g ++ d)
  inserted_after f g b d at e =
      let here : length (f ++ g) ≡ at = length-append f g ∙ sym e in
      let there : length (f ++ g) ≡ at + 0 = omega (arith, here) in
      ap (λ (ys : List X). ys ++ d) (sym (append_assoc f g b))
      ∙ sym (ap (λ (ys : List X). ys ++ b ++ drop (at + 0) (f ++ g ++ d)) (take_at (f ++ g) d at here)
      ∙ ap (λ (ys : List X). f ++ g ++ b ++ ys) (drop_at (f ++ g) d (at + 0) there))

  pub inserted_before : (f g b d : List X) (at : ℕ) → at ≡ length f → f ++ (b ++ g) ++ d ≡ edited at 0 b (f ++ g ++ d)
  inserted_before f g b d at e =
      let there : length f ≡ at + 0 = omega (arith, e) in
      let prefix : take at (f ++ g ++ d) ≡ f = ap (take at) (append_assoc f g d) ∙ take_at f (g ++ d) at (sym e) in
      let suffix : drop (at + 0) (f ++ g ++ d) ≡ g ++ d =
      ap (drop (at + 0)) (append_assoc f g d) ∙ drop_at f (g ++ d) (at + 0) there in
      ap (λ (ys : List X). ys ++ d) (sym (append_assoc f b g)) ∙ append_assoc (f ++ b) g d
      ∙ sym (ap (λ (ys : List X). ys ++ b ++ drop (at + 0) (f ++ g ++ d)) prefix ∙ ap (λ (ys : List X). f ++ b ++ ys) suffix)

  -- a place past the end is the end
  pub insert_clamped : (xs b : List X) (start at len : ℕ) → length xs ≡ len → at ≡ min start len → edited at 0 b xs ≡ edited start 0 b xs
  insert_clamped xs b start at len e h =
      let prefix : take at xs ≡ take start xs = rw (h, ← e) (take_min start xs) in
      let more : at + 0 ≡ min start (length xs) = omega (arith, h, e) in
      let same : start + 0 ≡ start = omega arith in
      let suffix : drop (at + 0) xs ≡ drop (start + 0) xs = rw (more, same) (drop_min start xs) in
      ap (λ (ys : List X). ys ++ b ++ drop (at + 0) xs) prefix ∙ ap (λ (ys : List X). take start xs ++ b ++ ys) suffix

  -- a removal of a range in which the end of the gap's bytes g lies, or to which it is next
  pub removed_beside : (xs g : List X) (cut_start cut_end from until end : ℕ) → cut_start ≤ length xs → end ≡ cut_start + length g → from ≤ end →
      end ≤ until → take (min cut_start from) xs ++ take (from - cut_start) g ++ drop (cut_end + (until - end)) xs
      ≡ take from (take cut_start xs ++ g ++ drop cut_end xs) ++ [] ++ drop until (take cut_start xs ++ g ++ drop cut_end xs)
  removed_beside xs g cut_start cut_end from until end i e lo hi =
      let f : List X = take cut_start xs in
      let d : List X = drop cut_end xs in
      let size : length f ≡ cut_start = length-take-le cut_start xs i in
      let both : length (f ++ g) ≡ end = length-append f g ∙ (omega (arith, size, e)) in
      let none : from - length (f ++ g) ≡ 0 = omega (arith, both, lo) in
      let past : drop until (f ++ g) ≡ [] = drop_all until (f ++ g) (omega (arith, both, hi)) in
      let left : take from (f ++ g ++ d) ≡ take (min cut_start from) xs ++ take (from - cut_start) g =
      take_both from (f ++ g) d ∙ ap (λ (k : ℕ). take from (f ++ g) ++ take k d) none ∙ append-nil (take from (f ++ g))
      ∙ take_both from f g ∙ ap (λ (ys : List X). ys ++ take (from - length f) g) (take_twice from cut_start xs)
      ∙ ap (λ (k : ℕ). take (min cut_start from) xs ++ take (from - k) g) size in
      let right : drop until (f ++ g ++ d) ≡ drop (cut_end + (until - end)) xs =
      drop_both until (f ++ g) d ∙ ap (λ (ys : List X). ys ++ drop (until - length (f ++ g)) d) past
      ∙ ap (λ (k : ℕ). drop (until - k) d) both ∙ drop-drop (until - end) cut_end xs in
      sym (ap (λ (ys : List X). ys ++ [] ++ drop until (f ++ g ++ d)) left
      ∙ ap (λ (ys : List X). take (min cut_start from) xs ++ take (from - cut_start) g ++ [] ++ ys) right
      ∙ ap (λ (ys : List X). ys ++ drop (cut_end + (until - end)) xs) (append-nil (take (min cut_start from) xs ++ take (from - cut_start) g)))

  -- no bytes in the gap
  pub around : (xs g : List X) (at : ℕ) → g ≡ [] → take at xs ++ g ++ drop at xs ≡ xs
  around xs g at e = ap (λ (ys : List X). take at xs ++ ys ++ drop at xs) e
      ∙ ap (λ (ys : List X). ys ++ drop at xs) (append-nil (take at xs)) ∙ take-append-drop at xs

-- no bytes in the gap, and some that were added to none
pub around_nothing : (xs : List Cell) (g : List ℕ) (at : ℕ) → g ≡ [] → take at xs ++ map known g ++ drop at xs ≡ xs
around_nothing xs g at e = around xs (map known g) at (ap (map known) e)

-- bytes in the gap of a text, and of what is left of it around them
pub still_around : (xs ys : List Cell) (g : List ℕ) (start end : ℕ) → start ≤ length xs → ys ≡ take start xs ++ drop end xs →
    take start ys ++ map known g ++ drop start ys ≡ take start xs ++ map known g ++ drop end xs
still_around xs ys g start end h e =
    let size : length (take start xs) ≡ start = length-take-le start xs h in
    ap (λ (zs : List Cell). take start zs ++ map known g ++ drop start zs) e
    ∙ ap (λ (zs : List Cell). zs ++ map known g ++ drop start (take start xs ++ drop end xs)) (take_at (take start xs) (drop end xs) start size)
    ∙ ap (λ (zs : List Cell). take start xs ++ map known g ++ zs) (drop_at (take start xs) (drop end xs) start size)
