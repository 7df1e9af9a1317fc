-- Comparisons by pieces: the first difference decides, and else the lengths.
use Rattle.cord_search.proofs.Common.{AreSame, Equal, Greater, IsCommon, IsOrderOf, IsPartOf, IsPieceOf, IsReadable, IsReported, IsSpanOf, Lengths}
use Rattle.cord_search.proofs.Common.{Less, List, Node, None, Option, Ordering, Some, Span, Table, [], ap, arith, bytes_of, drop, drop-drop}
use Rattle.cord_search.proofs.Common.{exact_bytes, get_or, length, length-drop, length-take, length-take-le, min, nat_cmp, nat_list_cmp_total}
use Rattle.cord_search.proofs.Common.{range_of_range, refl, slice_cmp, span_bytes, span_len, suc, sym, take, take-append-drop, take-take, take_all}
use Rattle.cord_search.proofs.Common.{text_len, tied_itself, w8, zero, ℕ, ◌++◌, ◌+◌, ◌-◌, ◌<◌, ◌∙◌, ◌∷◌, ◌≡◌, ◌≤◌}
use Rattle.std.proofs.Common.{of_z, to_z, ◌≢◌}
use Rattle.std.proofs.lemmas.Bool.Decides.{nat_tests}
use Rattle.std.proofs.lemmas.List.{take_rest}
use Rattle.std.specs.Cmp.{nat_cmp_is}
use Rattle.std.specs.Cmp.Derive.{then_next}
use Rattle.std.specs.Ordering.{ordering_then}
use Rattle.std.specs.Prelude.{ℤ}
use Rattle.cord_core.proofs.CordLemmas.{range_min}
use Rattle.cord_core.specs.Cord.{IsCord}
use Rattle.cord_core.specs.Texts.{order}
use Rattle.cord_io.specs.declared.TheConstants.{MAX_LEN}
use Rattle.cord_node.proofs.TreeLemmas.{len_limit}
use Rattle.cord_search.proofs.Finding.{range_at}
use Rattle.cord_search.proofs.Ranges.{prefix_piece, take_on}
use Rattle.cord_search.proofs.Reading.{fits_in, len_in}
use Rattle.cord_search.proofs.Sharing.{same_on}
use Rattle.cord_search.specs.inner.Pieces.{sign_of}
use Rattle.cord_search.specs.inner.Spans.{IsOrderOfSpans}

-- an order that is none of equals decides
decided : (r o : Ordering) → (r ≡ Equal → ⊥) → ordering_then r o ≡ r
decided Less o not = refl
decided Equal o not = absurd (not refl)
decided Greater o not = refl

-- two texts in two parts: those in front decide, and then the others
cmp_append : (xs ys us vs : List ℕ) → length xs ≡ length ys →
    slice_cmp nat_cmp (xs ++ us) (ys ++ vs) ≡ ordering_then (slice_cmp nat_cmp xs ys) (slice_cmp nat_cmp us vs)
cmp_append [] [] us vs e = refl
cmp_append [] (c ∷ ys) us vs e = absurd (omega arith)
cmp_append (b ∷ xs) [] us vs e = absurd (omega arith)
cmp_append (b ∷ xs) (c ∷ ys) us vs e =
    then_next (nat_cmp b c) (slice_cmp nat_cmp xs ys) (slice_cmp nat_cmp us vs) refl (ap (ordering_then (nat_cmp b c)) (cmp_append xs ys us vs (omega arith)))

cmp_split : (n : ℕ) (xs ys : List ℕ) → length (take n xs) ≡ length (take n ys) →
    slice_cmp nat_cmp xs ys ≡ ordering_then (slice_cmp nat_cmp (take n xs) (take n ys)) (slice_cmp nat_cmp (drop n xs) (drop n ys))
cmp_split n xs ys e = ap (λ (zs : List ℕ). slice_cmp nat_cmp zs ys) (sym (take-append-drop n xs))
    ∙ ap (slice_cmp nat_cmp (take n xs ++ drop n xs)) (sym (take-append-drop n ys)) ∙ cmp_append (take n xs) (take n ys) (drop n xs) (drop n ys) e

-- the order of two texts is that of what comes after a prefix that both have
cmp_rest : (n : ℕ) (xs ys : List ℕ) → take n xs ≡ take n ys → slice_cmp nat_cmp xs ys ≡ slice_cmp nat_cmp (drop n xs) (drop n ys)
cmp_rest n xs ys e = cmp_split n xs ys (ap (λ (zs : List ℕ). length zs) e)
    ∙ ap (λ (r : Ordering). ordering_then r (slice_cmp nat_cmp (drop n xs) (drop n ys)))
    (ap (slice_cmp nat_cmp (take n xs)) (sym e) ∙ tied_itself nat_list_cmp_total (take n xs))

-- also with ranges to their ends
pub cmp_after : (xs ys : List ℕ) (n : ℕ) → take n xs ≡ take n ys →
    slice_cmp nat_cmp (take (length xs - n) (drop n xs)) (take (length ys - n) (drop n ys)) ≡ slice_cmp nat_cmp xs ys
cmp_after xs ys n prefix = rw (take_rest xs n, take_rest ys n) (sym (cmp_rest n xs ys prefix))

-- one text is a prefix of the other: their lengths decide
cmp_lengths : (xs ys : List ℕ) (m : ℕ) → min (length xs) (length ys) ≤ m → take m xs ≡ take m ys →
    nat_cmp (length xs) (length ys) ≡ slice_cmp nat_cmp xs ys
cmp_lengths xs ys m h e = pick (drop m xs) (drop m ys) (length-drop m xs) (length-drop m ys) ∙ sym (cmp_rest m xs ys e)
  where
    same : min m (length xs) ≡ min m (length ys)
    same = sym (length-take m xs) ∙ ap (λ (zs : List ℕ). length zs) e ∙ length-take m ys

    pick : (us vs : List ℕ) → length us ≡ length xs - m → length vs ≡ length ys - m →
        nat_cmp (length xs) (length ys) ≡ slice_cmp nat_cmp us vs
    pick [] [] p q = sym (nat_cmp_is (length xs) (length ys) Equal (omega (arith, same, p, q)))
    pick [] (c ∷ vs) p q = sym (nat_cmp_is (length xs) (length ys) Less (omega (arith, same, p, q)))
    pick (b ∷ us) [] p q = sym (nat_cmp_is (length xs) (length ys) Greater (omega (arith, same, p, q)))
    pick (b ∷ us) (c ∷ vs) p q = absurd (omega (arith, h, p, q))

-- the prefix of a piece, as a range of what is compared
pub piece_prefix : (x piece : List ℕ) (i done n : ℕ) → piece ≡ take (length piece) (drop (i + done) x) → n ≤ length piece →
    take n piece ≡ take n (drop done (drop i x))
piece_prefix x piece i done n e h = ap (λ (ys : List ℕ). take n ys) e ∙ take-take n (length piece) (drop (i + done) x) h
    ∙ ap (λ (ys : List ℕ). take n ys) (sym (drop-drop done i x))

-- a range that lies inside is as long as was asked
range_len : {lengths : Lengths} {t : Table} {x : Option Node} (i a : ℕ) → IsReported lengths t → IsReadable lengths x →
    (0 < a → i + a ≤ text_len x) → length (take a (drop i (bytes_of t x))) ≡ a
range_len i zero held readable inside = refl
range_len {t = t} {x = x} i (suc a) held readable inside = let fits : i + suc a ≤ text_len x = inside (omega arith) in
    length-take-le (suc a) (drop i (bytes_of t x)) (omega (arith, fits, len_in held readable, length-drop i (bytes_of t x)))

-- the first difference decides
apart : (u v : List ℕ) (done n : ℕ) (r : Ordering) → length (take n (drop done u)) ≡ length (take n (drop done v)) →
    r ≡ slice_cmp nat_cmp (take n (drop done u)) (take n (drop done v)) → (r ≡ Equal → ⊥) → take done u ≡ take done v →
    r ≡ slice_cmp nat_cmp u v
apart u v done n r l h not s =
    let rest = slice_cmp nat_cmp (drop n (drop done u)) (drop n (drop done v)) in
    sym (cmp_rest done u v s ∙ cmp_split n (drop done u) (drop done v) l ∙ ap (λ (o : Ordering). ordering_then o rest) (sym h) ∙ decided r rest not)

-- the next n bytes of two texts
module _ (u v : List ℕ) (done n : ℕ) (xs ys : List ℕ) (same : take done u ≡ take done v) (e : xs ≡ take (length xs) (drop done u))
    (f : ys ≡ take (length ys) (drop done v)) (p : length xs ≡ n) (q : length ys ≡ n) where
  here : xs ≡ take n (drop done u)
  here = e ∙ ap (λ (m : ℕ). take m (drop done u)) p

  there : ys ≡ take n (drop done v)
  there = f ∙ ap (λ (m : ℕ). take m (drop done v)) q

  pub next_same : slice_cmp nat_cmp xs ys ≡ Equal → take (done + n) u ≡ take (done + n) v
  next_same is = take_on u v done n (sym here ∙ exact_bytes xs ys is ∙ there) same

  pub next_apart : (r : Ordering) → r ≡ slice_cmp nat_cmp xs ys → (r ≡ Equal → ⊥) → r ≡ slice_cmp nat_cmp u v
  next_apart r is not = apart u v done n r (ap (λ (zs : List ℕ). length zs) (sym here) ∙ p ∙ sym q ∙ ap (λ (zs : List ℕ). length zs) there)
      (is ∙ ap (λ (zs : List ℕ). slice_cmp nat_cmp zs ys) here ∙ ap (slice_cmp nat_cmp (take n (drop done u))) there) not same

-- two texts are the same up to two places, and have a span each at them
module _ {lengths : Lengths} {t : Table} {x y : Option Node} {s other : Span} (i j done : ℕ) (held : IsReported lengths t)
    (first : IsSpanOf x (i + done) s) (second : IsSpanOf y (j + done) other) (left : IsReadable lengths x) (right : IsReadable lengths y)
    (same : AreSame t x i y j done) where
  -- pieces of them begin alike
  module _ (xs ys : List ℕ) (n : ℕ) (p : n ≤ length xs) (q : n ≤ length ys) (few : length xs ≤ span_len s) (less : length ys ≤ span_len other)
      (e : IsPartOf t s 0 xs) (f : IsPartOf t other 0 ys) (alike : take n xs ≡ take n ys) where
    pieces : IsPieceOf t x (i + done) xs × IsPieceOf t y (j + done) ys
    pieces = (prefix_piece held first left.fits xs few e, prefix_piece held second right.fits ys less f)

    pub pieces_same : AreSame t x i y j (done + n)
    pieces_same = take_on (drop i (bytes_of t x)) (drop j (bytes_of t y)) done n (sym (piece_prefix (bytes_of t x) xs i done n pieces.0 p)
        ∙ alike ∙ piece_prefix (bytes_of t y) ys j done n pieces.1 q) same

    -- and then differ
    pub pieces_end : (most : ℕ) → done + n ≤ most → n < length xs → n < length ys → get_or xs n 0 ≢ get_or ys n 0 →
        IsCommon t x i y j most (done + n)
    pieces_end most le more shorter differ = record {
      within = le;
      same = pieces_same;
      differ = λ _ one.
          let here : i + done + n ≡ i + (done + n) = omega arith in
          let there : j + done + n ≡ j + (done + n) = omega arith in
          differ (range_at (bytes_of t x) xs (i + done) n pieces.0 more ∙ ap (λ (k : ℕ). get_or (bytes_of t x) k 0) here ∙ one
          ∙ sym (range_at (bytes_of t y) ys (j + done) n pieces.1 shorter ∙ ap (λ (k : ℕ). get_or (bytes_of t y) k 0) there));
    }

  -- they are of one length and in this order
  module _ (r : Ordering) (one : span_len other ≡ span_len s) (order : IsOrderOfSpans t s other r) where
    ranges : IsOrderOf t x (i + done) (span_len s) y (j + done) (span_len s) r
    ranges = order ∙ ap (λ (zs : List ℕ). slice_cmp nat_cmp zs (span_bytes t other)) (first.text t (fits_in x held left.fits))
        ∙ ap (slice_cmp nat_cmp (take (span_len s) (drop (i + done) (bytes_of t x))))
        (second.text t (fits_in y held right.fits) ∙ ap (λ (m : ℕ). take m (drop (j + done) (bytes_of t y))) one)

    pub spans_same : r ≡ Equal → AreSame t x i y j (done + span_len s)
    spans_same is = same_on t x i y j done (span_len s) (exact_bytes (take (span_len s) (drop (i + done) (bytes_of t x)))
        (take (span_len s) (drop (j + done) (bytes_of t y))) (sym ranges ∙ is)) same

    pub spans_differ : (a b : ℕ) → done + span_len s ≤ a → done + span_len s ≤ b → (r ≡ Equal → ⊥) → IsOrderOf t x i a y j b r
    spans_differ a b k m not =
        let n : ℕ = span_len s in
        let u : List ℕ = take a (drop i (bytes_of t x)) in
        let v : List ℕ = take b (drop j (bytes_of t y)) in
        let here = range_of_range (bytes_of t x) done n i a k in
        let there = range_of_range (bytes_of t y) done n j b m in
        let long = range_len (i + done) n held left (λ _. first.inside) in
        let as_long = range_len (j + done) n held right (λ _. omega (arith, second.inside, one)) in
        apart u v done n r (ap (λ (zs : List ℕ). length zs) here ∙ long ∙ sym as_long ∙ ap (λ (zs : List ℕ). length zs) (sym there))
        (ranges ∙ ap (λ (zs : List ℕ). slice_cmp nat_cmp zs (take n (drop (j + done) (bytes_of t y)))) (sym here)
        ∙ ap (slice_cmp nat_cmp (take n (drop done u))) (sym there)) not
        (take-take done a (drop i (bytes_of t x)) (omega (arith, k)) ∙ same ∙ sym (take-take done b (drop j (bytes_of t y)) (omega (arith, m))))

-- all of the shorter one is the same
pub no_different : {lengths : Lengths} {t : Table} {x y : Option Node} (i a j b done : ℕ) → IsReported lengths t → IsReadable lengths x →
    IsReadable lengths y → (0 < a → i + a ≤ text_len x) → (0 < b → j + b ≤ text_len y) → done ≤ min a b → min a b ≤ done →
    AreSame t x i y j done → IsOrderOf t x i a y j b (nat_cmp a b)
no_different {t = t} {x = x} {y = y} i a j b done held left right inside within low high same =
    let u = drop i (bytes_of t x) in
    let v = drop j (bytes_of t y) in
    let p = range_len i a held left inside in
    let q = range_len j b held right within in
    let one : take done (take a u) ≡ take done (take b v) =
    take-take done a u (omega (arith, low)) ∙ same ∙ sym (take-take done b v (omega (arith, low))) in
    ap (λ (k : ℕ). nat_cmp k b) (sym p) ∙ ap (λ (k : ℕ). nat_cmp (length (take a u)) k) (sym q)
    ∙ cmp_lengths (take a u) (take b v) done (omega (arith, p, q, high)) one

-- the order of two texts as a number
pub order_sign : (xs ys : List ℕ) → sign_of (slice_cmp nat_cmp xs ys) ≡ order xs ys
order_sign [] [] = refl
order_sign [] (c ∷ ys) = refl
order_sign (b ∷ xs) [] = refl
order_sign (b ∷ xs) (c ∷ ys) = grind (arith, nat_tests, order_sign xs ys)

-- a number that tells an order fits its type
signed : (r : Ordering) → to_z w8 (of_z w8 (sign_of r)) ≡ sign_of r
signed Less = refl
signed Equal = refl
signed Greater = refl

-- what an order of two texts tells as a number, where they are those
sign_order : (u v xs ys : List ℕ) (r : Ordering) (s : ℤ) → u ≡ xs → v ≡ ys → s ≡ sign_of r → r ≡ slice_cmp nat_cmp u v →
    to_z w8 (of_z w8 s) ≡ order xs ys
sign_order u v xs ys r s left right f h = ap (λ (z : ℤ). to_z w8 (of_z w8 z)) f ∙ signed r ∙ ap sign_of h ∙ order_sign u v
    ∙ ap (λ (zs : List ℕ). order zs v) left ∙ ap (λ (zs : List ℕ). order xs zs) right

-- the order of two cords
pub sign_whole : {lengths : Lengths} {t : Table} {a b : ℕ} {s : ℤ} (x y : Option Node) (r : Ordering) → IsReported lengths t →
    IsReadable lengths x → IsReadable lengths y → a ≡ text_len x → b ≡ text_len y → s ≡ sign_of r → IsOrderOf t x 0 a y 0 b r →
    to_z w8 (of_z w8 s) ≡ order (bytes_of t x) (bytes_of t y)
sign_whole {t = t} {a = a} {b = b} {s = s} x y r held left right d e f h = sign_order (take a (bytes_of t x)) (take b (bytes_of t y))
    (bytes_of t x) (bytes_of t y) r s (take_all a (bytes_of t x) (omega (arith, len_in held left, d)))
    (take_all b (bytes_of t y) (omega (arith, len_in held right, e))) f h

-- the order of two ranges
pub sign_ranges : {lengths : Lengths} {t : Table} {a b : ℕ} {s : ℤ} (x : Option Node) (i : ℕ) (y : Option Node) (j k : ℕ) (r : Ordering) →
    IsReported lengths t → IsReadable lengths x → IsReadable lengths y → a ≡ min k (text_len x - i) → b ≡ min k (text_len y - j) →
    s ≡ sign_of r → IsOrderOf t x i a y j b r → to_z w8 (of_z w8 s)
    ≡ order (take k (drop i (bytes_of t x))) (take k (drop j (bytes_of t y)))
sign_ranges {t = t} {a = a} {b = b} {s = s} x i y j k r held left right d e f h =
    let u = drop i (bytes_of t x) in
    let v = drop j (bytes_of t y) in
    sign_order (take a u) (take b v) (take k u) (take k v) r s
    (ap (λ (m : ℕ). take m u) d ∙ range_min (bytes_of t x) i k (text_len x) (len_in held left))
    (ap (λ (m : ℕ). take m v) e ∙ range_min (bytes_of t y) j k (text_len y) (len_in held right)) f h

-- no cord is longer than the limit
pub cord_limit : (c : Option Node) → IsCord c → text_len c ≤ MAX_LEN
cord_limit None s = omega arith
cord_limit (Some n) s = len_limit n s
