-- What is wanted of expressions, among the cords of their parts.
use Rattle.cord_run.proofs.Common.{ℕ, Bool, true, false, ℤ, List, [], length, take, drop, replicate, Result, Ok, Err, refl, sym, ap, subst}
use Rattle.cord_run.proofs.Common.{◌∙◌, append-nil, append_assoc, length-take, arith, IfOk, min, nat_le, Option, IfOk-at_ok, leb-true}
use Rattle.cord_run.proofs.Common.{leb-false, drop-drop, drop-replicate, drop-take, length-replicate, take_all, take_min, take-replicate}
use Rattle.cord_run.proofs.Common.{take-take, Table, Lengths, MAX_LEN, Node, lengths_of, text_len, bytes_of, CordFits, all_bytes, all_len}
use Rattle.cord_run.proofs.Common.{AllFitIn, IsSubstring, HasText, Number, FaultKind, number_value, and_then, as_index, as_byte, as_length}
use Rattle.cord_run.proofs.Common.{Expr, name, run, cat, sub, Exprs, held_text, within, copies, part_of, measured_copies, text_in, passes}
use Rattle.cord_run.proofs.Common.{fits_within, cat_joined, Wanted, Entry, extent_in, members_extent, content_in, cord_in, length_in}
use Rattle.cord_run.proofs.Common.{operand_in, holding_of, plain_of, named, copied, PartsFrom, parts_of, inl, inr, IsCord, IsCordOfText}
use Rattle.cord_run.proofs.Common.{Adds, AddsCordRange, AddsCopies, AddsRun, AddsExpression, AddsMembers, IsAfter, IsPast, ◌≡◌, ◌+◌, ◌-◌}
use Rattle.cord_run.proofs.Common.{◌<◌, ◌≤◌, ◌∷◌, ◌++◌, take-append-drop}
use Rattle.cord_run.proofs.MemberRanges.{nothing_taken, one_in_turn}
use Rattle.cord_run.proofs.Lengths.{cord_fits, content_text, operand_value, length_passed}

-- ---- what the members of a list have, one after the other
module _ {A B : Type 0} (all : List A → List B) (one : A → List B) (nil : all [] ≡ [])
    (cons : (x : A) (xs : List A) → all (x ∷ xs) ≡ one x ++ all xs) where
  -- two lists
  pub all_both : (xs ys : List A) → all (xs ++ ys) ≡ all xs ++ all ys
  all_both [] ys = sym (ap (λ (zs : List B). zs ++ all ys) nil)
  all_both (x ∷ xs) ys = cons x (xs ++ ys) ∙ ap (λ (zs : List B). one x ++ zs) (all_both xs ys)
      ∙ sym (append_assoc (one x) (all xs) (all ys)) ∙ ap (λ (zs : List B). zs ++ all ys) (sym (cons x xs))

  -- one member more
  pub all_more : (xs : List A) (x : A) → all (xs ++ x ∷ []) ≡ all xs ++ one x
  all_more xs x = all_both xs (x ∷ []) ∙ ap (λ (zs : List B). all xs ++ zs) (cons x [] ∙ ap (λ (zs : List B). one x ++ zs) nil
      ∙ append-nil (one x))

  -- the first so many, and those after them
  pub all_split : (n : ℕ) (xs : List A) → all (take n xs) ++ all (drop n xs) ≡ all xs
  all_split n xs = sym (all_both (take n xs) (drop n xs)) ∙ ap all (take-append-drop n xs)

-- ---- one cord more
pub all_fit_both : (lengths : Lengths) (ps qs : List (Option Node)) → AllFitIn lengths ps → AllFitIn lengths qs → AllFitIn lengths (ps ++ qs)
all_fit_both lengths [] qs first second = second
all_fit_both lengths (p ∷ ps) qs first second = (first.0, all_fit_both lengths ps qs first.1 second)

all_bytes_more : (t : Table) (old : List (Option Node)) (c : Option Node) → all_bytes t (old ++ c ∷ []) ≡ all_bytes t old ++ bytes_of t c
all_bytes_more t = all_more (λ (ps : List (Option Node)). all_bytes t ps) (λ (p : Option Node). bytes_of t p) refl (λ p ps. refl)

pub all_len_more : (old : List (Option Node)) (c : Option Node) → all_len (old ++ c ∷ []) ≡ all_len old + text_len c
all_len_more [] c = omega arith
all_len_more (x ∷ old) c = let rest = all_len_more old c in omega (arith, rest)

module _ (cord : Option Node) (wanted : Wanted) where
  -- what is wanted of a cord
  pub part_added : (part : Option Node) (old new : List (Option Node)) → IsSubstring wanted.skip wanted.count cord part →
      PartsFrom (parts_of cord) (parts_of part) → new ≡ old ++ part ∷ [] → AddsCordRange cord wanted old new
  part_added part old new is shared pushed = subst (AddsCordRange cord wanted old) (sym pushed) (record {
    fits = λ lengths one all. all_fit_both lengths old (part ∷ []) all (is.fits lengths one, tt);
    bytes = λ t one. all_bytes_more t old part ∙ ap (λ (u : List ℕ). all_bytes t old ++ u) (is.bytes t one);
    in_turn = inr (part, refl, record { start = wanted.skip; count = wanted.count; range = is; shared = shared });
  })

  -- nothing is
  pub part_passed : (old : List (Option Node)) → ((t : Table) → CordFits t cord → min wanted.count (length (bytes_of t cord) - wanted.skip)
      ≡ 0) → AddsCordRange cord wanted old old
  part_passed old none = record {
    fits = λ lengths one all. all;
    bytes = λ t one. sym (append-nil (all_bytes t old)) ∙ ap (λ (u : List ℕ). all_bytes t old ++ u)
        (sym (nothing_taken (bytes_of t cord) wanted.skip wanted.count (none t one)));
    in_turn = inl refl;
  }

-- one piece more, of the bytes that are taken
pub few_more : (wanted after : Wanted) (len : ℕ) (old new : List (Option Node)) (piece : Option Node) → IsPast len wanted after →
    text_len piece ≡ min wanted.count (len - wanted.skip) → new ≡ old ++ piece ∷ [] → all_len new + after.count ≤ all_len old + wanted.count
few_more wanted after len old new piece past long pushed =
    let more : all_len new ≡ all_len old + text_len piece = ap all_len pushed ∙ all_len_more old piece in
    let left : after.count ≡ wanted.count - (len - wanted.skip) = past.count in
    omega (arith, more, long, left)

-- copies of a byte
pub copies_text : (b count : ℕ) (cord : Option Node) → count ≤ MAX_LEN → HasText (replicate count b) cord → IsCord cord →
    IsCordOfText (replicate count b) cord
copies_text b count cord short has sound = record {
  sound = sound;
  short = subst (λ (n : ℕ). n ≤ MAX_LEN) (sym (length-replicate count b)) short;
  whole = has;
}

pub copies_added : (z : ℤ) (b count : ℕ) (made : Option Node) (old new : List (Option Node)) → as_byte z ≡ Ok b →
    HasText (replicate count b) made → text_len made ≡ count → new ≡ old ++ made ∷ [] → AddsCopies z count old new
copies_added z b count made old new is text len pushed = subst (AddsCopies z count old) (sym pushed) (record {
  fits = λ lengths all. all_fit_both lengths old (made ∷ []) all (text.fits lengths, tt);
  bytes = λ t a same. all_bytes_more t old made ∙ ap (λ (u : List ℕ). all_bytes t old ++ u)
      (text.bytes t ∙ ap (λ (x : ℕ). replicate count x) (same_byte a same));
  len = all_len_more old made ∙ ap (λ (n : ℕ). all_len old + n) len;
  in_turn = inr (made, refl, record { value = b; count = count; is = is; text = text });
})
  where
    same_byte : (a : ℕ) → as_byte z ≡ Ok a → b ≡ a
    same_byte a same = cc

-- ---- a name
pub name_added : (entries : List Entry) (x : List ℕ) (wanted after : Wanted) (old new : List (Option Node)) →
    Adds (AddsCordRange (cord_in (content_in entries x)) wanted old new) (Ok (length_in entries x)) wanted after old new →
    AddsExpression entries (name x) wanted after old new
name_added entries x wanted after old new adds = record {
  added = record {
    fits = λ lengths over all. adds.added.fits lengths (cord_fits lengths (content_in entries x) (over.contents x)) all;
    bytes = λ t over there whole is.
        let same : held_text ((holding_of t entries).held x) ≡ whole = cc in
        adds.added.bytes t (cord_fits (lengths_of t) (content_in entries x) (over.contents x))
        ∙ ap (λ (u : List ℕ). all_bytes t old ++ take wanted.count (drop wanted.skip u)) (sym (content_text t (content_in entries x)) ∙ same);
    in_turn = one_in_turn entries (named x) old new adds.added.in_turn;
  };
  past = adds.past;
  few = adds.few;
}

-- ---- copies
-- copies that are made are those whose length is computed
pub record AreMade (z w : ℤ) (whole : List ℕ) : Type 0 where
  pub byte : ℕ
  pub count : ℕ
  pub is : as_byte z ≡ Ok byte
  pub reported : measured_copies MAX_LEN z w ≡ Ok count
  pub same : replicate count byte ≡ whole

pub run_made : (z w : ℤ) (whole : List ℕ) → copies MAX_LEN z w ≡ Ok whole → AreMade z w whole
run_made z w whole h =
    let p = passes (as_byte z) (λ b. and_then (as_index w) (λ n. and_then (as_length MAX_LEN n) (λ _. Ok (replicate n b)))) whole h in
    let q = passes (as_index w) (λ n. and_then (as_length MAX_LEN n) (λ _. Ok (replicate n p.middle))) whole p.next in
    let r = passes (as_length MAX_LEN q.middle) (λ _. Ok (replicate q.middle p.middle)) whole q.next in
    let passed = length_passed q.middle r.middle r.first in
    let reported : measured_copies MAX_LEN z w ≡ Ok q.middle =
    (λ i. and_then (p.first i) (λ b. and_then (q.first i) (λ m. as_length MAX_LEN m))) ∙ r.first ∙ ap (λ (m : ℕ). Ok m) (sym passed.0) in
    let next : ◌≡◌ {A = Result (List ℕ) FaultKind} (Ok (replicate q.middle p.middle)) (Ok whole) = r.next in
    record { byte = p.middle; count = q.middle; is = p.first; reported = reported; same = cc }

-- a range of copies
range_of_copies : (skip count n b : ℕ) → replicate (min count (n - skip)) b ≡ take count (drop skip (replicate n b))
range_of_copies skip count n b =
    let long : length (replicate (n - skip) b) ≡ n - skip = length-replicate (n - skip) b in
    let enough : min count (n - skip) ≤ n - skip = omega arith in
    sym (take-replicate (min count (n - skip)) (n - skip) b enough)
    ∙ ap (λ (k : ℕ). take (min count k) (replicate (n - skip) b)) (sym long)
    ∙ take_min count (replicate (n - skip) b)
    ∙ ap (λ (u : List ℕ). take count u) (sym (drop-replicate skip n b))

module _ (z w : ℤ) (wanted : Wanted) (old : List (Option Node)) where
  -- what is wanted of copies
  pub run_picked : (len taken : ℕ) (new : List (Option Node)) → measured_copies MAX_LEN z w ≡ Ok len →
      taken ≡ min wanted.count (len - wanted.skip) → AddsCopies z taken old new → AddsRun z w wanted old new
  run_picked len taken new reported some part = record {
    fits = part.fits;
    bytes = λ t whole is.
        let made = run_made z w whole is in
        let same : len ≡ made.count = let reported_made = made.reported in cc in
        part.bytes t made.byte made.is
        ∙ ap (λ (u : List ℕ). all_bytes t old ++ u) (ap (λ (k : ℕ). replicate k made.byte)
        (some ∙ ap (λ (k : ℕ). min wanted.count (k - wanted.skip)) same)
        ∙ range_of_copies wanted.skip wanted.count made.count made.byte
        ∙ ap (λ (u : List ℕ). take wanted.count (drop wanted.skip u)) made.same);
    in_turn = part.in_turn;
  }

pub run_added : (entries : List Entry) (c n : Number) (wanted after : Wanted) (old new : List (Option Node)) →
    Adds (AddsRun (operand_in entries c) (operand_in entries n) wanted old new)
    (measured_copies MAX_LEN (operand_in entries c) (operand_in entries n)) wanted after old new →
    AddsExpression entries (run c n) wanted after old new
run_added entries c n wanted after old new adds = record {
  added = record {
    fits = λ lengths over all. adds.added.fits lengths all;
    bytes = λ t over there whole is. adds.added.bytes t whole
        ((λ i. copies MAX_LEN (operand_value t entries c i) (operand_value t entries n i)) ∙ is);
    in_turn = one_in_turn entries (copied c) old new adds.added.in_turn;
  };
  past = adds.past;
  few = adds.few;
}

-- ---- a `cat`
-- what is wanted after a length that is let pass
past_checked : (wanted after : Wanted) (n : ℕ) (r : Result ℕ FaultKind) → as_length MAX_LEN n ≡ r → IsPast n wanted after →
    IsAfter r wanted after
past_checked wanted after n (Err kind) e h = tt
past_checked wanted after n (Ok k) e h = subst (λ (m : ℕ). IsPast m wanted after) (length_passed n k e).0 h

pub cat_added : (entries : List Entry) (es : Exprs) (wanted after : Wanted) (old new : List (Option Node)) →
    AddsMembers entries es wanted after old new → AddsExpression entries (cat es) wanted after old new
cat_added entries es wanted after old new adds = record {
  added = record {
    fits = adds.added.fits;
    bytes = λ t over there whole is. adds.added.bytes t over there whole (cat_joined MAX_LEN (plain_of t entries) es whole is).joined;
    in_turn = adds.added.in_turn;
  };
  past = by_members (members_extent entries es) adds.past;
  few = adds.few;
}
  where
    by_members : (r : Result ℕ FaultKind) → IsAfter r wanted after → IsAfter (and_then r (λ n. as_length MAX_LEN n)) wanted after
    by_members (Err kind) h = tt
    by_members (Ok n) h = past_checked wanted after n (as_length MAX_LEN n) refl h

-- ---- a `sub`
-- a range of a range
range_within : (xs : List ℕ) (start most skip count : ℕ) → take (min count (most - skip)) (drop (start + min skip most) xs)
    ≡ take count (drop skip (take most (drop start xs)))
range_within xs start most skip count = by_test (nat_le skip most) refl
  where
    by_count : (b : Bool) (m : ℕ) (ys : List ℕ) → nat_le count m ≡ b → take (min count m) ys ≡ take count (take m ys)
    by_count true m ys e =
        let few : count ≤ m = leb-true count m e in
        let same : min count m ≡ count = omega arith in
        ap (λ (k : ℕ). take k ys) same ∙ sym (take-take count m ys few)
    by_count false m ys e =
        let many : m < count = leb-false count m e in
        let same : min count m ≡ m = omega arith in
        let long : length (take m ys) ≡ min m (length ys) = length-take m ys in
        ap (λ (k : ℕ). take k ys) same ∙ sym (take_all count (take m ys) (omega (arith, long)))

    by_test : (b : Bool) → nat_le skip most ≡ b → take (min count (most - skip)) (drop (start + min skip most) xs)
        ≡ take count (drop skip (take most (drop start xs)))
    by_test true e =
        let inside : skip ≤ most = leb-true skip most e in
        let first : start + min skip most ≡ start + skip = omega arith in
        let all : skip + (most - skip) ≡ most = omega arith in
        ap (λ (k : ℕ). take (min count (most - skip)) (drop k xs)) first
        ∙ ap (λ (u : List ℕ). take (min count (most - skip)) u) (sym (drop-drop skip start xs))
        ∙ by_count (nat_le count (most - skip)) (most - skip) (drop skip (drop start xs)) refl
        ∙ ap (λ (u : List ℕ). take count u) (sym (drop-take skip (most - skip) (drop start xs)))
        ∙ ap (λ (k : ℕ). take count (drop skip (take k (drop start xs)))) all
    by_test false e =
        let outside : most < skip = leb-false skip most e in
        let none : min count (most - skip) ≡ 0 = omega arith in
        let long : length (take most (drop start xs)) ≡ min most (length (drop start xs)) = length-take most (drop start xs) in
        let empty : min count (length (take most (drop start xs)) - skip) ≡ 0 = omega (arith, long) in
        ap (λ (k : ℕ). take k (drop (start + min skip most) xs)) none ∙ sym (nothing_taken (take most (drop start xs)) skip count empty)

-- a part of a text
record IsPartOf (u : List ℕ) (z w : ℤ) (whole : List ℕ) : Type 0 where
  first : ℕ
  most : ℕ
  start_is : as_index z ≡ Ok first
  count_is : as_index w ≡ Ok most
  same : take most (drop first u) ≡ whole

part_known : (u : List ℕ) (z w : ℤ) (whole : List ℕ) → part_of MAX_LEN u z w ≡ Ok whole → IsPartOf u z w whole
part_known u z w whole h =
    let p = passes (as_index z) (λ a. and_then (as_index w) (λ m. within MAX_LEN (take m (drop a u)))) whole h in
    let q = passes (as_index w) (λ m. within MAX_LEN (take m (drop p.middle u))) whole p.next in
    record {
      first = p.middle;
      most = q.middle;
      start_is = p.first;
      count_is = q.first;
      same = (fits_within MAX_LEN (take q.middle (drop p.middle u)) whole q.next).same;
    }

module _ (entries : List Entry) (e : Expr) (i n : Number) (start most : ℕ) (wanted inner : Wanted)
    (start_is : IfOk (as_index (operand_in entries i)) (λ k. start ≡ k)) (most_is : IfOk (as_index (operand_in entries n)) (λ k. most ≡ k))
    (inside : inner ≡ record { skip = start + min wanted.skip most; count = min wanted.count (most - wanted.skip) }) where
  module _ (rest after : Wanted) (outside : after ≡ record {
    skip = wanted.skip - (min wanted.skip most - rest.skip);
    count = wanted.count - (inner.count - rest.count);
  }) where
    part_past : (len : ℕ) → IsPast len inner rest → IsPast (min most (len - start)) wanted after
    part_past len past =
        let skip = λ (w : Wanted). w.skip in
        let count = λ (w : Wanted). w.count in
        record {
          skip = omega (arith, ap skip inside, past.skip, ap skip outside);
          count = omega (arith, ap skip inside, ap count inside, past.count, ap count outside);
        }

    sub_past : IsAfter (extent_in entries e) inner rest → IsAfter (extent_in entries (sub e i n)) wanted after
    sub_past h = by_checks (extent_in entries e) (as_index (operand_in entries i)) (as_index (operand_in entries n)) h start_is most_is
      where
        by_checks : (r ri rn : Result ℕ FaultKind) → IsAfter r inner rest → IfOk ri (λ k. start ≡ k) → IfOk rn (λ k. most ≡ k) →
            IsAfter (and_then r (λ len. and_then ri (λ a. and_then rn (λ m. as_length MAX_LEN (min m (len - a)))))) wanted after
        by_checks (Err kind) ri rn past at up_to = tt
        by_checks (Ok len) (Err kind) rn past at up_to = tt
        by_checks (Ok len) (Ok a) (Err kind) past at up_to = tt
        by_checks (Ok len) (Ok a) (Ok m) past at up_to =
            past_checked wanted after (min m (len - a)) (as_length MAX_LEN (min m (len - a))) refl
            (subst (λ (x : ℕ). IsPast x wanted after) (λ j. min (up_to j) (len - at j)) (part_past len past))

    pub sub_added : (old new : List (Option Node)) → AddsExpression entries e inner rest old new →
        AddsExpression entries (sub e i n) wanted after old new
    sub_added old new adds = record {
      added = record {
        fits = adds.added.fits;
        bytes = λ t over there whole is.
            let q = passes (text_in MAX_LEN (plain_of t entries) e)
            (λ u. part_of MAX_LEN u (number_value (plain_of t entries) i) (number_value (plain_of t entries) n)) whole is in
            let p = part_known q.middle (operand_in entries i) (operand_in entries n) whole
            ((λ j. part_of MAX_LEN q.middle (operand_value t entries i j) (operand_value t entries n j)) ∙ q.next) in
            let at : start ≡ p.first = IfOk-at_ok (λ k. start ≡ k) p.start_is start_is in
            let up_to : most ≡ p.most = IfOk-at_ok (λ k. most ≡ k) p.count_is most_is in
            adds.added.bytes t over there q.middle q.first
            ∙ ap (λ (u : List ℕ). all_bytes t old ++ u) ((λ j. take (inside j).count (drop (inside j).skip q.middle))
            ∙ range_within q.middle start most wanted.skip wanted.count
            ∙ (λ j. take wanted.count (drop wanted.skip (take (up_to j) (drop (at j) q.middle))))
            ∙ ap (λ (u : List ℕ). take wanted.count (drop wanted.skip u)) p.same);
        in_turn = adds.added.in_turn;
      };
      past = sub_past adds.past;
      few = omega (arith, adds.few, ap (λ (w : Wanted). w.count) inside, ap (λ (w : Wanted). w.count) outside);
    }
