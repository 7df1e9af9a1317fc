-- Members joined: prefixes of them, from which cords their pieces come, and what a walk over them adds.
use Rattle.cord_run.proofs.Common.{ℕ, true, List, [], length, Result, Ok, Err, refl, sym, ap, ◌∙◌, append_assoc, length-append, arith, min}
use Rattle.cord_run.proofs.Common.{Table, lengths_of, FaultKind, and_then, Expr, Exprs, append, member, nothing, all_texts, cords, cords_of}
use Rattle.cord_run.proofs.Common.{text_in, passes, MAX_LEN, Entry, counted, extent_in, members_extent, IsOver, holding_of, plain_of}
use Rattle.cord_run.proofs.Common.{Origin, origins, origins_of, joined_over, subst, append-nil, inl, inr, ⊎_elim, Option, Node, InTurn}
use Rattle.cord_run.proofs.Common.{IsPieceFrom, AddsAtMostOne, AddsInTurn, Bool, false, take, drop, length-drop, nat_le, leb-true}
use Rattle.cord_run.proofs.Common.{leb-false, take_min, Lengths, all_bytes, AllFitIn, Wanted, AddsExpression, AddsMembers, AddsRange, Adds}
use Rattle.cord_run.proofs.Common.{IsAfter, IsPast, ◌≡◌, ◌+◌, ◌-◌, ◌^◌, ◌++◌, ◌∷◌, ◌<◌, ◌≤◌, all_len, State, cat, within}
use Rattle.cord_run.proofs.Lengths.{text_length, texts_split}
use Rattle.cord_node.proofs.Ranges.{range_left, range_right, range_both}

-- ---- names and origins
pub names_both : (es others : Exprs) → cords_of (append es others) ≡ cords_of es ++ cords_of others
names_both nothing others = refl
names_both (member e es) others = ap (λ (xs : List (List ℕ)). cords e ++ xs) (names_both es others)
    ∙ sym (append_assoc (cords e) (cords_of es) (cords_of others))

pub origins_both : (es others : Exprs) → origins_of (append es others) ≡ origins_of es ++ origins_of others
origins_both nothing others = refl
origins_both (member e es) others = ap (λ (os : List Origin). origins e ++ os) (origins_both es others)
    ∙ sym (append_assoc (origins e) (origins_of es) (origins_of others))

-- ---- lengths
-- a length and another
abbrev pub added : Result ℕ FaultKind → Result ℕ FaultKind → Result ℕ FaultKind
added r q = and_then r (λ len. and_then q (λ more. Ok (len + more)))

nothing_added : (r : Result ℕ FaultKind) → r ≡ added (Ok 0) r
nothing_added (Ok len) = let same : len ≡ 0 + len = omega arith in ap (λ (n : ℕ). Ok n) same
nothing_added (Err kind) = refl

added_thrice : (r q p : Result ℕ FaultKind) → added r (added q p) ≡ added (added r q) p
added_thrice (Ok a) (Ok b) (Ok c) = let same : a + (b + c) ≡ a + b + c = omega arith in ap (λ (n : ℕ). Ok n) same
added_thrice (Ok a) (Ok b) (Err kind) = refl
added_thrice (Ok a) (Err kind) p = refl
added_thrice (Err kind) q p = refl

pub extent_both : (entries : List Entry) (es others : Exprs) → members_extent entries (append es others)
    ≡ added (members_extent entries es) (members_extent entries others)
extent_both entries nothing others = nothing_added (members_extent entries others)
extent_both entries (member e es) others =
    ap (λ (r : Result ℕ FaultKind). added (extent_in entries e) r) (extent_both entries es others)
    ∙ added_thrice (extent_in entries e) (members_extent entries es) (members_extent entries others)

-- as far as a number goes
pub counted_both : (r q : Result ℕ FaultKind) → counted 0 (added r q) ≡ and_then (counted 0 r) (λ total. counted total q)
counted_both (Ok a) (Ok b) =
    let same : min (0 + (a + b)) (2 ^ 64 - 1) ≡ min (min (0 + a) (2 ^ 64 - 1) + b) (2 ^ 64 - 1) = omega arith in
    ap (λ (n : ℕ). Ok n) same
counted_both (Ok a) (Err kind) = refl
counted_both (Err kind) q = refl

-- members in front, and then the others
pub all_counted : (entries : List Entry) (es others : Exprs) → counted 0 (members_extent entries (append es others))
    ≡ and_then (counted 0 (members_extent entries es)) (λ total. counted total (members_extent entries others))
all_counted entries es others = ap (λ (r : Result ℕ FaultKind). counted 0 r) (extent_both entries es others)
    ∙ counted_both (members_extent entries es) (members_extent entries others)

-- ---- texts
-- a text and another
abbrev pub joined : Result (List ℕ) FaultKind → Result (List ℕ) FaultKind → Result (List ℕ) FaultKind
joined r q = and_then r (λ text. and_then q (λ rest. Ok (text ++ rest)))

nothing_joined : (r : Result (List ℕ) FaultKind) → r ≡ joined (Ok []) r
nothing_joined (Ok text) = refl
nothing_joined (Err kind) = refl

joined_thrice : (r q p : Result (List ℕ) FaultKind) → joined r (joined q p) ≡ joined (joined r q) p
joined_thrice (Ok a) (Ok b) (Ok c) = ap (λ (text : List ℕ). Ok text) (sym (append_assoc a b c))
joined_thrice (Ok a) (Ok b) (Err kind) = refl
joined_thrice (Ok a) (Err kind) p = refl
joined_thrice (Err kind) q p = refl

-- two expressions
pub two_joined : (s : State) (a b : Expr) (x y : List ℕ) → text_in MAX_LEN s a ≡ Ok x → text_in MAX_LEN s b ≡ Ok y →
    text_in MAX_LEN s (cat (member a (member b nothing))) ≡ within MAX_LEN (x ++ y)
two_joined s a b x y first last =
    (λ j. and_then (joined (first j) (joined (last j) (Ok []))) (λ text. within MAX_LEN text))
    ∙ ap (λ (u : List ℕ). within MAX_LEN (x ++ u)) (append-nil y)

pub joined_both : (entries : List Entry) (es others : Exprs) (t : Table) → joined_over entries (append es others) t
    ≡ joined (joined_over entries es t) (joined_over entries others t)
joined_both entries nothing others t = nothing_joined (joined_over entries others t)
joined_both entries (member e es) others t =
    ap (λ (r : Result (List ℕ) FaultKind). joined (text_in MAX_LEN (plain_of t entries) e) r) (joined_both entries es others t)
    ∙ joined_thrice (text_in MAX_LEN (plain_of t entries) e) (joined_over entries es t) (joined_over entries others t)

-- ---- what stands in front of other members
-- its names, its text over a table and its length
pub record IsPrefix (entries : List Entry) (all others : Exprs) (needed : List (List ℕ)) (first : Table → Result (List ℕ) FaultKind)
    (extent : Result ℕ FaultKind) : Type 0 where
  pub names : cords_of all ≡ needed ++ cords_of others
  pub texts : (t : Table) → joined_over entries all t ≡ joined (first t) (joined_over entries others t)
  pub long : (t : Table) → IsOver (lengths_of t) entries → all_texts (holding_of t entries) needed ≡ true → (text : List ℕ) →
      first t ≡ Ok text → extent ≡ Ok (length text)

-- the texts of what is in front, and of the others
pub record Parts (entries : List Entry) (others : Exprs) (needed : List (List ℕ)) (prefix : Result (List ℕ) FaultKind)
    (extent : Result ℕ FaultKind) (t : Table) (rest : List ℕ) : Type 0 where
  pub first : List ℕ
  pub second : List ℕ
  pub first_is : prefix ≡ Ok first
  pub first_there : all_texts (holding_of t entries) needed ≡ true
  pub second_is : joined_over entries others t ≡ Ok second
  pub second_there : all_texts (holding_of t entries) (cords_of others) ≡ true
  pub whole : first ++ second ≡ rest
  pub extent_is : extent ≡ Ok (length first)

pub parts_of : (entries : List Entry) (all others : Exprs) (needed : List (List ℕ)) (first : Table → Result (List ℕ) FaultKind)
    (extent : Result ℕ FaultKind) → IsPrefix entries all others needed first extent → (t : Table) → IsOver (lengths_of t) entries →
    (rest : List ℕ) → joined_over entries all t ≡ Ok rest → all_texts (holding_of t entries) (cords_of all) ≡ true →
    Parts entries others needed (first t) extent t rest
parts_of entries all others needed first extent prefix t over rest is there =
    let names : all_texts (holding_of t entries) (needed ++ cords_of others) ≡ true =
    ap (λ (xs : List (List ℕ)). all_texts (holding_of t entries) xs) (sym prefix.names) ∙ there in
    let split = texts_split (holding_of t entries) needed (cords_of others) names in
    let p = passes (first t) (λ text. and_then (joined_over entries others t) (λ more. Ok (text ++ more))) rest
    (sym (prefix.texts t) ∙ is) in
    let q = passes (joined_over entries others t) (λ more. Ok (p.middle ++ more)) rest p.next in
    let whole : p.middle ++ q.middle ≡ rest = cc in
    record {
      first = p.middle;
      second = q.middle;
      first_is = p.first;
      first_there = split.first;
      second_is = q.first;
      second_there = split.second;
      whole = whole;
      extent_is = prefix.long t over split.first p.middle p.first;
    }

-- an expression in front
pub member_prefix : (entries : List Entry) (e : Expr) (others : Exprs) →
    IsPrefix entries (member e others) others (cords e) (λ t. text_in MAX_LEN (plain_of t entries) e) (extent_in entries e)
member_prefix entries e others = record {
  names = refl;
  texts = λ t. refl;
  long = λ t over there text is. text_length t entries over e there text is;
}

-- members whose names all hold texts are together as long as their texts
pub members_length : (entries : List Entry) (t : Table) → IsOver (lengths_of t) entries → (es : Exprs) →
    all_texts (holding_of t entries) (cords_of es) ≡ true → (text : List ℕ) → joined_over entries es t ≡ Ok text →
    members_extent entries es ≡ Ok (length text)
members_length entries t over nothing there text is = let none : [] ≡ text = cc in ap (λ (xs : List ℕ). Ok (length xs)) none
members_length entries t over (member e es) there text is =
    let p = parts_of entries (member e es) es (cords e) (λ u. text_in MAX_LEN (plain_of u entries) e) (extent_in entries e)
    (member_prefix entries e es) t over text is there in
    let suffix = members_length entries t over es p.second_there p.second p.second_is in
    let long : length p.first + length p.second ≡ length text =
    sym (length-append p.first p.second) ∙ ap (λ (xs : List ℕ). length xs) p.whole in
    ap (λ (r : Result ℕ FaultKind). added r (members_extent entries es)) p.extent_is
    ∙ ap (λ (r : Result ℕ FaultKind). added (Ok (length p.first)) r) suffix
    ∙ ap (λ (n : ℕ). Ok n) long

-- other members in front
pub members_prefix : (entries : List Entry) (es others : Exprs) →
    IsPrefix entries (append es others) others (cords_of es) (λ t. joined_over entries es t) (members_extent entries es)
members_prefix entries es others = record {
  names = names_both es others;
  texts = λ t. joined_both entries es others t;
  long = λ t over there text is. members_length entries t over es there text is;
}

-- no pieces
pub none_in_turn : (entries : List Entry) (os : List Origin) → InTurn entries os []
none_in_turn entries [] = tt
none_in_turn entries (o ∷ os) = tt

-- an origin that gives none
turn_passed : (entries : List Entry) (o : Origin) (os : List Origin) (ps : List (Option Node)) → InTurn entries os ps →
    InTurn entries (o ∷ os) ps
turn_passed entries o os [] h = tt
turn_passed entries o os (p ∷ ps) h = inr h

-- pieces of origins, and then those of others
pub turns_joined : (entries : List Entry) (os others : List Origin) (ps more : List (Option Node)) → InTurn entries os ps →
    InTurn entries others more → InTurn entries (os ++ others) (ps ++ more)
turns_joined entries [] others [] more h k = k
turns_joined entries [] others (p ∷ ps) more h k = absurd h
turns_joined entries (o ∷ os) others [] more h k = turn_passed entries o (os ++ others) more
    (turns_joined entries os others [] more (none_in_turn entries os) k)
turns_joined entries (o ∷ os) others (p ∷ ps) more h k =
    ⊎_elim (λ one. inl (one.0, turns_joined entries os others ps more one.1 k))
    (λ rest. inr (turns_joined entries os others (p ∷ ps) more rest k)) h

-- one piece of an origin at most
pub one_in_turn : (entries : List Entry) (o : Origin) (old new : List (Option Node)) → AddsAtMostOne (IsPieceFrom entries o) old new →
    AddsInTurn entries (o ∷ []) old new
one_in_turn entries o old new = ⊎_elim (λ same. record { added = []; is = same ∙ sym (append-nil old); each = tt })
    (λ one. record { added = one.0 ∷ []; is = one.1; each = inl (one.2, tt) })

-- a walk over members: pieces of those that it has passed, to which pieces of those that are left can be added
pub record TurnsSoFar (entries : List Entry) (es : Exprs) (old : List (Option Node)) (left_over : Exprs)
    (now : List (Option Node)) : Type 0 where
  pub added : List (Option Node)
  pub is : now ≡ old ++ added
  pub more : (others : List (Option Node)) → InTurn entries (origins_of left_over) others → InTurn entries (origins_of es) (added ++ others)

pub turns_start : (entries : List Entry) (es : Exprs) (old : List (Option Node)) → TurnsSoFar entries es old es old
turns_start entries es old = record { added = []; is = sym (append-nil old); more = λ others h. h }

-- what stands in front of the others was passed, and gave these pieces
pub turns_go_on : (entries : List Entry) (es : Exprs) (old : List (Option Node)) (from : List Origin) (all others : Exprs)
    (now next : List (Option Node)) → origins_of all ≡ from ++ origins_of others → TurnsSoFar entries es old all now →
    AddsInTurn entries from now next → TurnsSoFar entries es old others next
turns_go_on entries es old from all others now next split s a = record {
  added = s.added ++ a.added;
  is = a.is ∙ ap (λ (ps : List (Option Node)). ps ++ a.added) s.is ∙ append_assoc old s.added a.added;
  more = λ ps h.
      subst (λ (pieces : List (Option Node)). InTurn entries (origins_of es) pieces) (sym (append_assoc s.added a.added ps))
      (s.more (a.added ++ ps) (subst (λ (os : List Origin). InTurn entries os (a.added ++ ps)) (sym split)
      (turns_joined entries from (origins_of others) a.added ps a.each h)));
}

-- those that are left give these pieces
pub turns_added : (entries : List Entry) (es : Exprs) (old : List (Option Node)) (left_over : Exprs) (now next : List (Option Node)) →
    TurnsSoFar entries es old left_over now → AddsInTurn entries (origins_of left_over) now next →
    AddsInTurn entries (origins_of es) old next
turns_added entries es old left_over now next s a = record {
  added = s.added ++ a.added;
  is = a.is ∙ ap (λ (ps : List (Option Node)). ps ++ a.added) s.is ∙ append_assoc old s.added a.added;
  each = s.more a.added a.each;
}

-- or none
pub turns_end : (entries : List Entry) (es : Exprs) (old : List (Option Node)) (left_over : Exprs) (now : List (Option Node)) →
    TurnsSoFar entries es old left_over now → AddsInTurn entries (origins_of es) old now
turns_end entries es old left_over now s = turns_added entries es old left_over now now s (record {
  added = [];
  is = sym (append-nil now);
  each = none_in_turn entries (origins_of left_over);
})

-- ---- texts
-- a range of a text that has no byte of it
pub nothing_taken : (xs : List ℕ) (skip count : ℕ) → min count (length xs - skip) ≡ 0 → take count (drop skip xs) ≡ []
nothing_taken xs skip count none =
    let long : length (drop skip xs) ≡ length xs - skip = length-drop skip xs in
    let same : min count (length (drop skip xs)) ≡ 0 = omega (arith, long, none) in
    sym (take_min count (drop skip xs)) ∙ ap (λ (n : ℕ). take n (drop skip xs)) same

-- a range of two texts, of which the first has a byte of it
range_through : (u v : List ℕ) (skip left : ℕ) → skip < length u →
    take left (drop skip (u ++ v)) ≡ take (min left (length u - skip)) (drop skip u) ++ take (left - min left (length u - skip)) (drop 0 v)
range_through u v skip left h = by_test (nat_le (skip + left) (length u)) refl
  where
    by_test : (b : Bool) → nat_le (skip + left) (length u) ≡ b →
        take left (drop skip (u ++ v)) ≡ take (min left (length u - skip)) (drop skip u)
        ++ take (left - min left (length u - skip)) (drop 0 v)
    by_test true e =
        let inside : skip + left ≤ length u = leb-true (skip + left) (length u) e in
        let all : left ≡ min left (length u - skip) = omega arith in
        let none : 0 ≡ left - min left (length u - skip) = omega arith in
        range_left u v skip left inside ∙ sym (append-nil (take left (drop skip u)))
        ∙ (λ i. take (all i) (drop skip u) ++ take (none i) (drop 0 v))
    by_test false e =
        let over : length u < skip + left = leb-false (skip + left) (length u) e in
        let some : length u - skip ≡ min left (length u - skip) = omega arith in
        let others : skip + left - length u ≡ left - min left (length u - skip) = omega arith in
        range_both u v skip left (omega arith) (omega arith) ∙ (λ i. take (some i) (drop skip u) ++ take (others i) (drop 0 v))

-- a range of two texts is one of each
range_over : (u v : List ℕ) (skip left : ℕ) → take left (drop skip (u ++ v)) ≡ take left (drop skip u)
    ++ take (left - (length u - skip)) (drop (skip - length u) v)
range_over u v skip left = by_test (nat_le (length u) skip) refl
  where
    by_test : (b : Bool) → nat_le (length u) skip ≡ b → take left (drop skip (u ++ v)) ≡ take left (drop skip u)
        ++ take (left - (length u - skip)) (drop (skip - length u) v)
    by_test true e =
        let past : length u ≤ skip = leb-true (length u) skip e in
        let none : min left (length u - skip) ≡ 0 = omega arith in
        let all : left ≡ left - (length u - skip) = omega arith in
        range_right u v skip left past
        ∙ ap (λ (n : ℕ). take n (drop (skip - length u) v)) all
        ∙ ap (λ (w : List ℕ). w ++ take (left - (length u - skip)) (drop (skip - length u) v)) (sym (nothing_taken u skip left none))
    by_test false e =
        let before : skip < length u = leb-false (length u) skip e in
        let long : length (drop skip u) ≡ length u - skip = length-drop skip u in
        let first : take (min left (length u - skip)) (drop skip u) ≡ take left (drop skip u) =
        ap (λ (n : ℕ). take (min left n) (drop skip u)) (sym long) ∙ take_min left (drop skip u) in
        let others : left - min left (length u - skip) ≡ left - (length u - skip) = omega arith in
        let start : 0 ≡ skip - length u = omega arith in
        range_through u v skip left before ∙ (λ i. first i ++ take (others i) (drop (start i) v))

-- ---- the text that is added
-- what is left to add of the members that are left, over a table
pub record Remains (entries : List Entry) (t : Table) (left_over : Exprs) (left : Wanted) (now : List (Option Node))
    (goal : List ℕ) : Type 0 where
  pub rest : List ℕ
  pub joined : joined_over entries left_over t ≡ Ok rest
  pub there : all_texts (holding_of t entries) (cords_of left_over) ≡ true
  pub whole : all_bytes t now ++ take left.count (drop left.skip rest) ≡ goal

-- what is wanted after one length and another
after_both : (r q : Result ℕ FaultKind) (wanted left after : Wanted) → IsAfter r wanted left → IsAfter q left after →
    IsAfter (added r q) wanted after
after_both (Err kind) q wanted left after past h = tt
after_both (Ok len) (Err kind) wanted left after past h = tt
after_both (Ok len) (Ok more) wanted left after past h = record {
  skip = omega (arith, past.skip, h.skip);
  count = omega (arith, past.skip, past.count, h.count);
}

-- how far the walk is: these members are left, and this is wanted of them; what is wanted after them is wanted after all
pub record SoFar (entries : List Entry) (es : Exprs) (wanted : Wanted) (old : List (Option Node)) (left_over : Exprs) (left : Wanted)
    (now : List (Option Node)) : Type 0 where
  pub fits : (lengths : Lengths) → IsOver lengths entries → AllFitIn lengths old → AllFitIn lengths now
  pub bytes : (t : Table) → IsOver (lengths_of t) entries → all_texts (holding_of t entries) (cords_of es) ≡ true → (text : List ℕ) →
      joined_over entries es t ≡ Ok text → Remains entries t left_over left now
      (all_bytes t old ++ take wanted.count (drop wanted.skip text))
  pub turns : TurnsSoFar entries es old left_over now
  pub past : (after : Wanted) → IsAfter (members_extent entries left_over) left after → IsAfter (members_extent entries es) wanted after
  pub few : all_len now + left.count ≤ all_len old + wanted.count

-- at the start
pub starts : (entries : List Entry) (es : Exprs) (wanted : Wanted) (old : List (Option Node)) → SoFar entries es wanted old es wanted old
starts entries es wanted old = record {
  fits = λ lengths over all. all;
  bytes = λ t over there text is. record { rest = text; joined = is; there = there; whole = refl };
  turns = turns_start entries es old;
  past = λ after h. h;
  few = omega arith;
}

module _ (entries : List Entry) (es : Exprs) (wanted : Wanted) (old : List (Option Node)) where
  -- at the end, where nothing more is added
  ends : (left_over : Exprs) (left : Wanted) (now : List (Option Node)) → ((t : Table) (rest : List ℕ) →
      joined_over entries left_over t ≡ Ok rest → take left.count (drop left.skip rest) ≡ []) →
      IsAfter (members_extent entries left_over) left left → SoFar entries es wanted old left_over left now →
      AddsMembers entries es wanted left old now
  ends left_over left now none same s = record {
    added = record {
      fits = s.fits;
      bytes = λ t over there text is.
          let r = s.bytes t over there text is in
          sym (append-nil (all_bytes t now)) ∙ ap (λ (u : List ℕ). all_bytes t now ++ u) (sym (none t r.rest r.joined)) ∙ r.whole;
      in_turn = turns_end entries es old left_over now s.turns;
    };
    past = s.past left same;
    few = s.few;
  }

  -- since nothing more is wanted
  pub ends_early : (left_over : Exprs) (left : Wanted) (now : List (Option Node)) → (left.skip ≡ 0) × (left.count ≡ 0) →
      SoFar entries es wanted old left_over left now → AddsMembers entries es wanted left old now
  ends_early left_over left now zero = ends left_over left now (λ t rest is. ap (λ (n : ℕ). take n (drop left.skip rest)) zero.1)
      (by_extent (members_extent entries left_over))
    where
      by_extent : (r : Result ℕ FaultKind) → IsAfter r left left
      by_extent (Err kind) = tt
      by_extent (Ok len) = record { skip = omega (arith, zero.0); count = omega (arith, zero.1) }

  -- since no member is left
  pub ends_last : (left : Wanted) (now : List (Option Node)) → SoFar entries es wanted old nothing left now →
      AddsMembers entries es wanted left old now
  ends_last left now = ends nothing left now (λ t rest is. let none : [] ≡ rest = cc in
      nothing_taken rest left.skip left.count (subst (λ (xs : List ℕ). min left.count (length xs - left.skip) ≡ 0) none (omega arith)))
      (record { skip = omega arith; count = omega arith })

  -- and those that are left are added
  ends_added : (left_over : Exprs) (left after : Wanted) (now next : List (Option Node)) → SoFar entries es wanted old left_over left now →
      AddsMembers entries left_over left after now next → AddsMembers entries es wanted after old next
  ends_added left_over left after now next s part = record {
    added = record {
      fits = λ lengths over all. part.added.fits lengths over (s.fits lengths over all);
      bytes = λ t over there text is.
          let r = s.bytes t over there text is in
          part.added.bytes t over r.there r.rest r.joined ∙ r.whole;
      in_turn = turns_added entries es old left_over now next s.turns part.added.in_turn;
    };
    past = s.past after part.past;
    few = omega (arith, s.few, part.few);
  }

  -- what is in front of the others is added
  passed : (all others : Exprs) (needed : List (List ℕ)) (from : List Origin) (first : Table → Result (List ℕ) FaultKind)
      (extent : Result ℕ FaultKind) → IsPrefix entries all others needed first extent → origins_of all ≡ from ++ origins_of others →
      members_extent entries all ≡ added extent (members_extent entries others) → (left after : Wanted) (now next : List (Option Node)) →
      SoFar entries es wanted old all left now → Adds (AddsRange entries needed from first left now next) extent left after now next →
      SoFar entries es wanted old others after next
  passed all others needed from first extent prefix turns sum left after now next s part = record {
    fits = λ lengths over fit. part.added.fits lengths over (s.fits lengths over fit);
    bytes = λ t over there text is.
        let r = s.bytes t over there text is in
        let p = parts_of entries all others needed first extent prefix t over r.rest r.joined r.there in
        let at : IsPast (length p.first) left after = subst (λ (q : Result ℕ FaultKind). IsAfter q left after) p.extent_is part.past in
        let split : take left.count (drop left.skip r.rest) ≡ take left.count (drop left.skip p.first)
        ++ take after.count (drop after.skip p.second) =
        ap (λ (u : List ℕ). take left.count (drop left.skip u)) (sym p.whole)
        ∙ range_over p.first p.second left.skip left.count
        ∙ (λ i. take left.count (drop left.skip p.first) ++ take (sym at.count i) (drop (sym at.skip i) p.second)) in
        record {
          rest = p.second;
          joined = p.second_is;
          there = p.second_there;
          whole = ap (λ (u : List ℕ). u ++ take after.count (drop after.skip p.second)) (part.added.bytes t over p.first_there p.first p.first_is)
              ∙ append_assoc (all_bytes t now) (take left.count (drop left.skip p.first)) (take after.count (drop after.skip p.second))
              ∙ ap (λ (u : List ℕ). all_bytes t now ++ u) (sym split)
              ∙ r.whole;
        };
    turns = turns_go_on entries es old from all others now next turns s.turns part.added.in_turn;
    past = λ last h. s.past last (subst (λ (r : Result ℕ FaultKind). IsAfter r left last) (sym sum)
        (after_both extent (members_extent entries others) left after last part.past h));
    few = omega (arith, s.few, part.few);
  }

  -- a member more
  pub goes_on : (e : Expr) (others : Exprs) (left after : Wanted) (now next : List (Option Node)) →
      SoFar entries es wanted old (member e others) left now → AddsExpression entries e left after now next →
      SoFar entries es wanted old others after next
  goes_on e others = passed (member e others) others (cords e) (origins e) (λ t. text_in MAX_LEN (plain_of t entries) e) (extent_in entries e)
      (member_prefix entries e others) refl refl

-- those in front, and then the others
pub both_added : (entries : List Entry) (es others : Exprs) (wanted left after : Wanted) (old now next : List (Option Node)) →
    AddsMembers entries es wanted left old now → AddsMembers entries others left after now next →
    AddsMembers entries (append es others) wanted after old next
both_added entries es others wanted left after old now next first second =
    let all = append es others in
    ends_added entries all wanted old others left after now next
    (passed entries all wanted old all others (cords_of es) (origins_of es) (λ t. joined_over entries es t) (members_extent entries es)
    (members_prefix entries es others) (origins_both es others) (extent_both entries es others) wanted left old now
    (starts entries all wanted old) first) second
