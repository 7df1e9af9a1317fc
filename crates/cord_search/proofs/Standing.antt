-- Places of a text in another, by windows.
use Rattle.cord_search.proofs.Common.{Equal, Ghosts, Greater, HoldsText, IsOrderOf, IsPieceOf, IsReadable, IsReported, IsSpanOf, IsStanding, Lengths}
use Rattle.cord_search.proofs.Common.{Less, List, Node, None, NoneBefore, Nowhere, Option, Ordering, Shows, Some, Span, StandsAt, StandsNot, Table}
use Rattle.cord_search.proofs.Common.{ap, append_assoc, arith, bytes_of, drop, exact_bytes, false, first, get_or, get_or-drop, length, length-drop}
use Rattle.cord_search.proofs.Common.{length-take-le, nat_cmp, nat_list_cmp_total, slice_cmp, span_bytes, subst, sym, take, take-add}
use Rattle.cord_search.proofs.Common.{take-append-drop, take_all, text_len, tied_itself, true, ℕ, ◌++◌, ◌+◌, ◌-◌, ◌<◌, ◌∙◌, ◌≡◌, ◌≤◌}
use Rattle.std.proofs.Common.{length-append}
use Rattle.std.proofs.lemmas.List.{get_or_append_left, nil_from_length, take_at}
use Rattle.std.proofs.lemmas.Slice.{take-put_mid}
use Rattle.std.specs.Ordering.{is_eq}
use borrow.Rule.Slice.PartMut.{post_of, put_mid}
use Rattle.memchr.proofs.lemmas.MatchLemmas.{OccursAt-split}
use Rattle.memchr.specs.Find.{FindsNeedle, OccursAt}
use Rattle.cord_search.proofs.Comparing.{piece_prefix}
use Rattle.cord_search.proofs.Finding.{first_is, first_only, nowhere_on, range_at, range_inside}
use Rattle.cord_search.proofs.Ranges.{span_piece}
use Rattle.cord_search.proofs.Reading.{len_in, shown_so}
use Rattle.cord_search.specs.inner.Spans.{DoesNotFit, IsMisfit}

-- bytes were copied after what was filled
pub filled_on : (t : Table) (c : Option Node) (place done k n : ℕ) (out part : List ℕ) → HoldsText t c place done out →
    IsPieceOf t c (place + done) part → length part ≡ n → done ≤ length out → HoldsText t c place (done + n) (put_mid done k out part)
filled_on t c place done k n out part h e long q =
    let x = drop place (bytes_of t c) in
    let next : part ≡ take n (drop done x) =
    sym (take_all n part (omega (arith, long))) ∙ piece_prefix (bytes_of t c) part place done n e (omega (arith, long)) in
    take-put_mid done k out part (done + n) (omega (arith, long)) q ∙ ap (λ (ys : List ℕ). ys ++ part) h
    ∙ ap (λ (ys : List ℕ). take done x ++ ys) next ∙ sym (take-add done n x)

-- and lie inside
pub filled_inside : (done k n : ℕ) (out part : List ℕ) → length part ≡ n → done ≤ length out → done + n ≤ length (put_mid done k out part)
filled_inside done k n out part long q =
    let prefix : length (take done out) ≡ done = length-take-le done out q in
    omega (arith, long, prefix, length-append (take done out) (part ++ post_of done k out), length-append part (post_of done k out))

-- a text that stands in another ends inside
pub stands_inside : (x s : List ℕ) (q : ℕ) → StandsAt x s q → q + length s ≤ length x
stands_inside x s q at = omega (arith, ap (λ (ys : List ℕ). length ys) at.here, length-drop q x, length-append s at.rest, at.within)

-- the bytes of a text that stands in another
pub stands_get : (x s : List ℕ) (q j : ℕ) → StandsAt x s q → j < length s → get_or x (q + j) 0 ≡ get_or s j 0
stands_get x s q j at lt = sym (get_or-drop q x j 0) ∙ ap (λ (ys : List ℕ). get_or ys j 0) at.here ∙ get_or_append_left s at.rest 0 j lt

-- a text that stands in another occurs in a window that holds it
occurs : (x window head : List ℕ) (place q : ℕ) → window ≡ take (length window) (drop place x) → place ≤ q →
    q + length head ≤ place + length window → StandsAt x head q → OccursAt window head (q - place)
occurs x window head place q e from to at =
    record {
      fits = omega arith;
      reads = λ j lt.
          let here : place + (q - place + j) ≡ q + j = omega arith in
          range_at x window place (q - place + j) e (omega arith) ∙ ap (λ (k : ℕ). get_or x k 0) here ∙ stands_get x head q j at lt;
    }

-- and stands where it occurs in a window
occurred : (x window head : List ℕ) (place k : ℕ) → 0 < length head → window ≡ take (length window) (drop place x) →
    OccursAt window head k → StandsAt x head (place + k)
occurred x window head place k some e h =
    let inside : place + length window ≤ length x = range_inside x window place e (omega (arith, some, h.fits)) in
    let there : OccursAt x head (place + k) = record {
      fits = omega (arith, inside, h.fits);
      reads = λ j lt.
          let here : place + k + j ≡ place + (k + j) = omega arith in
          ap (λ (m : ℕ). get_or x m 0) here ∙ sym (range_at x window place (k + j) e (omega (arith, h.fits, lt))) ∙ h.reads j lt;
    } in
    record { within = omega (arith, there.fits); rest = drop (place + k + length head) x; here = OccursAt-split x head (place + k) there }

-- bytes stand at no place before that of a piece
pub record IsNextPiece (t : Table) (x : Option Node) (s : List ℕ) (from p : ℕ) (xs : List ℕ) : Type 0 where
  pub none : StandsNot t x s from p
  pub piece : IsPieceOf t x p xs

window_on : (t : Table) (x : Option Node) (start place next m : ℕ) (window head : List ℕ) → Nowhere (OccursAt window head) 0 m →
    next ≤ place + m → next + length head ≤ place + length window + 1 → IsNextPiece t x head start place window → StandsNot t x head start next
window_on t x start place next m window head h p q w = nowhere_on (StandsAt (bytes_of t x) head) start place next w.none
    (λ k from to at. h (k - place) (omega arith) (omega arith) (occurs (bytes_of t x) window head place k w.piece from (omega arith) at))

module _ {S : Type 0} {s : Ghosts S} {a b : S} {x : Option Node} {start place : ℕ} {window head : List ℕ} {r : Option ℕ} where
  -- bytes that don't occur in a window stand at none of its places at which they would lie inside
  pub window_none : Shows s a b (λ t. IsNextPiece t x head start place window) → r ≡ None → FindsNeedle window head 0 r →
      length head ≤ length window → Shows s a b (λ t. StandsNot t x head start (place + (length window - length head + 1)))
  window_none next is h enough =
      let nowhere : Nowhere (OccursAt window head) 0 (length window + 1) = rw is at h in
      shown_so next (λ t held w. window_on t x start place (place + (length window - length head + 1)) (length window + 1) window head nowhere
      (omega arith) (omega (arith, enough)) w)

  -- or stand first where they occur first in it
  pub window_some : {k : ℕ} → Shows s a b (λ t. IsNextPiece t x head start place window) → r ≡ Some k → FindsNeedle window head 0 r →
      0 < length head → start ≤ place → Shows s a b (λ t. Some (place + k) ≡ first (bytes_of t x) start head)
  window_some {k} next is h some low =
      let here : NoneBefore (OccursAt window head) 0 (length window + 1) k × OccursAt window head k = rw is at h in
      let fits : k + length head ≤ length window = here.1.fits in
      shown_so next (λ t held w. first_only (bytes_of t x) head start (Some (place + k)) (
        omega (arith, low),
        occurred (bytes_of t x) window head place k some w.piece here.1,
        window_on t x start place (place + k) k window head here.0.before (omega arith) (omega arith) w,
      ))

-- they stand at none of the places that do not fit
pub misfit_on : {lengths : Lengths} {t : Table} {x : Option Node} {place : ℕ} {span : Span} (start n : ℕ) (head : List ℕ) →
    IsReported lengths t → IsSpanOf x place span → IsReadable lengths x → IsMisfit span head n → StandsNot t x head start place →
    StandsNot t x head start (place + n)
misfit_on {t = t} {x = x} {place = place} {span = span} start n head held h readable misfit none =
    nowhere_on (StandsAt (bytes_of t x) head) start place (place + n) none
    (λ q from to at. differ q at from (misfit t (q - place) (omega (arith, from, to))))
  where
    differ : (q : ℕ) → StandsAt (bytes_of t x) head q → place ≤ q → DoesNotFit t span head (q - place) → ⊥
    differ q at le d =
        let xs = bytes_of t x in
        let piece = span_piece held readable h in
        let here : place + (q - place + d.at) ≡ q + d.at = omega (arith, le) in
        d.differs (range_at xs (span_bytes t span) place (q - place + d.at) piece.0 (omega (arith, piece.1, d.within))
        ∙ ap (λ (k : ℕ). get_or xs k 0) here ∙ stands_get xs head q d.at at d.inside)

-- a place where they don't stand
pub stands_on : (t : Table) (x s : Option Node) (start place : ℕ) → IsStanding t x place s false →
    StandsNot t x (bytes_of t s) start place → StandsNot t x (bytes_of t s) start (place + 1)
stands_on t x s start place h none = nowhere_on (StandsAt (bytes_of t x) (bytes_of t s)) start place (place + 1) none
    (λ k from to at. let same : k ≡ place = omega (arith, from, to) in h (subst (λ (n : ℕ). StandsAt (bytes_of t x) (bytes_of t s) n) same at))

-- the first place
pub stands_first : (t : Table) (x s : Option Node) (start place : ℕ) → start ≤ place → IsStanding t x place s true →
    StandsNot t x (bytes_of t s) start place → Some place ≡ first (bytes_of t x) start (bytes_of t s)
stands_first t x s start place low h none = first_only (bytes_of t x) (bytes_of t s) start (Some place) (low, h, none)

-- the prefix of a text stands where the text stands
pub prefix_stands : (x s head : List ℕ) (q : ℕ) → head ≡ take (length head) s → StandsAt x s q → StandsAt x head q
prefix_stands x s head q f at = record {
  within = at.within;
  rest = drop (length head) s ++ at.rest;
  here = at.here ∙ ap (λ (ys : List ℕ). ys ++ at.rest) (sym (take-append-drop (length head) s))
      ∙ append_assoc (take (length head) s) (drop (length head) s) at.rest ∙ ap (λ (ys : List ℕ). ys ++ (drop (length head) s ++ at.rest))
      (sym f);
}

-- a text stands at no place at which its prefix doesn't
pub prefix_on : (t : Table) (x s : Option Node) (start place q : ℕ) (head : List ℕ) → Some q ≡ first (bytes_of t x) place head →
    IsPieceOf t s 0 head → StandsNot t x (bytes_of t s) start place → StandsNot t x (bytes_of t s) start q
prefix_on t x s start place q head is f none =
    let least = first_is (bytes_of t x) head place (Some q) is in
    nowhere_on (StandsAt (bytes_of t x) (bytes_of t s)) start place q none
    (λ k from to at. least.2 k from to (prefix_stands (bytes_of t x) (bytes_of t s) head k f at))

-- a text that was copied whole
pub whole_text : (t : Table) (s : Option Node) (xs : List ℕ) → IsPieceOf t s 0 xs → length xs ≡ text_len s →
    length (bytes_of t s) ≡ text_len s → xs ≡ bytes_of t s
whole_text t s xs e long len = e ∙ take_all (length xs) (bytes_of t s) (omega (arith, long, len))

-- nothing stands at each place up to the end
pub nothing_stands : (t : Table) (x s : Option Node) (place : ℕ) → place ≤ text_len x → text_len s ≡ 0 →
    length (bytes_of t x) ≡ text_len x → length (bytes_of t s) ≡ text_len s → IsStanding t x place s true
nothing_stands t x s place low e p q = record {
  within = omega (arith, p);
  rest = drop place (bytes_of t x);
  here = sym (ap (λ (ys : List ℕ). ys ++ drop place (bytes_of t x)) (nil_from_length (bytes_of t s) (q ∙ e)));
}

-- the order tells whether a text stands in another
module _ {lengths : Lengths} {t : Table} {x s : Option Node} {n m : ℕ} (place : ℕ) (held : IsReported lengths t)
    (readable : IsReadable lengths x) (pattern : IsReadable lengths s) (d : n ≡ text_len s) (e : m ≡ text_len s) where
  whole : take m (bytes_of t s) ≡ bytes_of t s
  whole = take_all m (bytes_of t s) (omega (arith, e, len_in held pattern))

  order_stands : place + text_len s ≤ text_len x → IsOrderOf t x place n s 0 m Equal → IsStanding t x place s true
  order_stands inside h =
      let y = drop place (bytes_of t x) in
      let same : take n y ≡ bytes_of t s = exact_bytes (take n y) (take m (bytes_of t s)) (sym h) ∙ whole in
      record {
        within = omega (arith, len_in held readable, inside);
        rest = drop n y;
        here = sym (take-append-drop n y) ∙ ap (λ (ys : List ℕ). ys ++ drop n y) same;
      }

  order_stands_not : (r : Ordering) → (r ≡ Equal → ⊥) → IsOrderOf t x place n s 0 m r → IsStanding t x place s false
  order_stands_not r not h = λ at.
      let text = bytes_of t s in
      let left : take n (drop place (bytes_of t x)) ≡ text =
      ap (λ (ys : List ℕ). take n ys) at.here ∙ take_at text at.rest n (len_in held pattern ∙ sym d) in
      not (h ∙ ap (λ (ys : List ℕ). slice_cmp nat_cmp ys (take m text)) left ∙ ap (λ (ys : List ℕ). slice_cmp nat_cmp text ys) whole
      ∙ tied_itself nat_list_cmp_total text)

  pub order_tells : (r : Ordering) → place + text_len s ≤ text_len x → IsOrderOf t x place n s 0 m r → IsStanding t x place s (is_eq r)
  order_tells Equal inside h = order_stands inside h
  order_tells Less inside h = order_stands_not Less (λ f. cc) h
  order_tells Greater inside h = order_stands_not Greater (λ f. cc) h
