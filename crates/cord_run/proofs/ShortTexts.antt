-- Members one by one, texts that are slices of memory, and such texts side by side that are gathered.
use Rattle.cord_run.proofs.Common.{ℕ, List, Result, Ok, sym, ap, ◌∙◌, MAX_LEN, Number, FaultKind, number_value, and_then, name, sub}
use Rattle.cord_run.proofs.Common.{part_of, Entry, content_in, cord_in, operand_in, plain_of, IsSliceOf, IsTextIn, Bool, true, false}
use Rattle.cord_run.proofs.Common.{length, drop, get_or, Err, refl, arith, min, nat_le, leb-true, leb-false, drop_more, drop_all, as_length}
use Rattle.cord_run.proofs.Common.{length_above, Shared, shared_view, counted, extent_in, members_extent, members_seen, [], subst}
use Rattle.cord_run.proofs.Common.{append_assoc, append-nil, all_texts, cords, cords_of, holding_of, AreTextsIn, joined_over, ◌≡◌, ◌<◌, ◌≤◌}
use Rattle.cord_run.proofs.Common.{◌+◌, ◌-◌, ◌^◌, ◌∷◌, ◌++◌}
use Rattle.cord_run.proofs.Lengths.{content_text, operand_value, texts_split}
use Rattle.cord_plan.specs.Exprs as plain
use Rattle.cord_plan.proofs.MemberTexts as texts
use Rattle.cord_run.proofs.MemberRanges.{joined, joined_both, names_both}

module _ (entries : List Entry) (x slice : List ℕ) (is : IsSliceOf (cord_in (content_in entries x)) slice) where
  -- the text of a name
  pub name_is : IsTextIn entries (name x) slice
  name_is = λ t there. ap (λ (u : List ℕ). Ok u) (content_text t (content_in entries x) ∙ is t)

  -- a range of it
  pub sub_is : (i n : Number) (range : List ℕ) → part_of MAX_LEN slice (operand_in entries i) (operand_in entries n) ≡ Ok range →
      IsTextIn entries (sub (name x) i n) range
  sub_is i n range part = λ t there.
      ap (λ (r : Result (List ℕ) FaultKind). and_then r (λ u. part_of MAX_LEN u (number_value (plain_of t entries) i)
      (number_value (plain_of t entries) n))) (name_is t there)
      ∙ sym (λ j. part_of MAX_LEN slice (operand_value t entries i j) (operand_value t entries n j)) ∙ part

abbrev pub weight : plain.Expr → ℕ
weight e = texts.weight e

abbrev pub weights : plain.Exprs → ℕ
weights es = texts.weights es

-- the member at hand is smaller than all of them
pub member_smaller : (ms : List Shared) (i : ℕ) (m : Shared) → i < length ms → m ≡ get_or ms i m →
    weight (shared_view m) < weights (members_seen ms)
member_smaller ms i m h is = texts.member_there ms i m h is

-- the member at hand is the first of those that are left
pub members_left : (ms : List Shared) (i : ℕ) (m : Shared) → i < length ms → m ≡ get_or ms i m →
    members_seen (drop i ms) ≡ plain.member (shared_view m) (members_seen (drop (i + 1) ms))
members_left ms i m h is = ap members_seen (drop_more ms i m h ∙ ap (λ (x : Shared). x ∷ drop (i + 1) ms) (sym is))

-- a length more
pub counted_more : (total len : ℕ) (r : Result ℕ FaultKind) → counted total (and_then r (λ others. Ok (len + others)))
    ≡ counted (min (total + len) (2 ^ 64 - 1)) r
counted_more total len (Ok others) =
    let same : min (total + (len + others)) (2 ^ 64 - 1) ≡ min (min (total + len) (2 ^ 64 - 1) + others) (2 ^ 64 - 1) = omega arith in
    ap (λ (n : ℕ). Ok n) same
counted_more total len (Err kind) = refl

module _ (entries : List Entry) (ms : List Shared) (i : ℕ) (m : Shared) (h : i < length ms) (is : m ≡ get_or ms i m) (total : ℕ) where
  -- the member at hand is counted
  pub member_counted : (len : ℕ) → extent_in entries (shared_view m) ≡ Ok len →
      counted total (members_extent entries (members_seen (drop i ms)))
      ≡ counted (min (total + len) (2 ^ 64 - 1)) (members_extent entries (members_seen (drop (i + 1) ms)))
  member_counted len e =
      ap (λ (es : plain.Exprs). counted total (members_extent entries es)) (members_left ms i m h is)
      ∙ ap (λ (r : Result ℕ FaultKind).
      counted total (and_then r (λ n. and_then (members_extent entries (members_seen (drop (i + 1) ms))) (λ others. Ok (n + others)))))
      e
      ∙ counted_more total len (members_extent entries (members_seen (drop (i + 1) ms)))

  -- the member at hand has a fault
  pub member_faulty : (kind : FaultKind) → extent_in entries (shared_view m) ≡ Err kind →
      counted total (members_extent entries (members_seen (drop i ms))) ≡ Err kind
  member_faulty kind e =
      ap (λ (es : plain.Exprs). counted total (members_extent entries es)) (members_left ms i m h is)
      ∙ ap (λ (r : Result ℕ FaultKind).
      counted total (and_then r (λ n. and_then (members_extent entries (members_seen (drop (i + 1) ms))) (λ others. Ok (n + others)))))
      e

-- no member is left to count
pub resolve_all : (entries : List Entry) (ms : List Shared) (i total : ℕ) → length ms ≤ i → total < 2 ^ 64 →
    counted total (members_extent entries (members_seen (drop i ms))) ≡ Ok total
resolve_all entries ms i total h small =
    let none : min (total + 0) (2 ^ 64 - 1) ≡ total = omega arith in
    ap (λ (xs : List Shared). counted total (members_extent entries (members_seen xs))) (drop_all i ms h) ∙ ap (λ (n : ℕ). Ok n) none

-- a length that stayed at the greatest number is too long all the same
pub counted_length : (len : ℕ) (r : Result ℕ FaultKind) → Ok len ≡ counted 0 r →
    as_length MAX_LEN len ≡ and_then r (λ n. as_length MAX_LEN n)
counted_length len (Err kind) e = let bad : ⊥ = cc in absurd bad
counted_length len (Ok n) e =
    let same : len ≡ min (0 + n) (2 ^ 64 - 1) = cc in
    by_test (nat_le n MAX_LEN) refl same
  where
    by_test : (v : Bool) → nat_le n MAX_LEN ≡ v → len ≡ min (0 + n) (2 ^ 64 - 1) → as_length MAX_LEN len ≡ as_length MAX_LEN n
    by_test true t same =
        let short : n ≤ MAX_LEN = leb-true n MAX_LEN t in
        let is : len ≡ n = omega arith in
        ap (λ (k : ℕ). as_length MAX_LEN k) is
    by_test false t same =
        let long : MAX_LEN < n = leb-false n MAX_LEN t in
        let also : MAX_LEN < len = omega arith in
        length_above MAX_LEN len also ∙ sym (length_above MAX_LEN n long)

module _ (entries : List Entry) where
  -- a member in front of others
  member_texts : (e : plain.Expr) (others : plain.Exprs) (text rest : List ℕ) → IsTextIn entries e text → AreTextsIn entries others rest →
      AreTextsIn entries (plain.member e others) (text ++ rest)
  member_texts e others text rest first suffix = λ t there.
      let split = texts_split (holding_of t entries) (cords e) (cords_of others) there in
      ap (λ (r : Result (List ℕ) FaultKind). and_then r (λ u. and_then (joined_over entries others t) (λ v. Ok (u ++ v))))
      (first t split.first)
      ∙ ap (λ (r : Result (List ℕ) FaultKind). and_then r (λ v. Ok (text ++ v))) (suffix t split.second)

  -- those in front, and then the others
  pub texts_both : (es others : plain.Exprs) (text rest : List ℕ) → AreTextsIn entries es text → AreTextsIn entries others rest →
      AreTextsIn entries (plain.append es others) (text ++ rest)
  texts_both es others text rest first suffix = λ t there.
      let names : all_texts (holding_of t entries) (cords_of es ++ cords_of others) ≡ true =
      ap (λ (xs : List (List ℕ)). all_texts (holding_of t entries) xs) (sym (names_both es others)) ∙ there in
      let split = texts_split (holding_of t entries) (cords_of es) (cords_of others) names in
      joined_both entries es others t
      ∙ ap (λ (r : Result (List ℕ) FaultKind). joined r (joined_over entries others t)) (first t split.first)
      ∙ ap (λ (r : Result (List ℕ) FaultKind). and_then r (λ v. Ok (text ++ v))) (suffix t split.second)

  -- those gathered so far after earlier ones, whatever the others are
  abbrev pub GatheredOf : List ℕ → List Shared → ℕ → List ℕ → Type 0
  GatheredOf before ms i text = (earlier : plain.Exprs) → AreTextsIn entries earlier before → (rest : List ℕ) →
      AreTextsIn entries (members_seen (drop i ms)) rest → AreTextsIn entries (plain.append earlier (members_seen ms)) (text ++ rest)

  pub gathered_none : (before : List ℕ) (ms : List Shared) → GatheredOf before ms 0 before
  gathered_none before ms = λ earlier are rest suffix. texts_both earlier (members_seen ms) before rest are suffix

  pub gathered_more : (before : List ℕ) (ms : List Shared) (i : ℕ) (m : Shared) → i < length ms → m ≡ get_or ms i m →
      (text slice more : List ℕ) → IsTextIn entries (shared_view m) slice → more ≡ text ++ slice → GatheredOf before ms i text →
      GatheredOf before ms (i + 1) more
  gathered_more before ms i m here is text slice more first grown so_far = λ earlier are rest suffix.
      let others : plain.Exprs = members_seen (drop (i + 1) ms) in
      let left = so_far earlier are (slice ++ rest)
      (subst (λ (es : plain.Exprs). AreTextsIn entries es (slice ++ rest)) (sym (members_left ms i m here is))
      (member_texts (shared_view m) others slice rest first suffix)) in
      subst (λ (u : List ℕ). AreTextsIn entries (plain.append earlier (members_seen ms)) u)
      (sym (ap (λ (u : List ℕ). u ++ rest) grown ∙ append_assoc text slice rest)) left

  pub gathered_all : (before : List ℕ) (ms : List Shared) (i : ℕ) (text : List ℕ) → length ms ≤ i → GatheredOf before ms i text →
      (earlier : plain.Exprs) → AreTextsIn entries earlier before → AreTextsIn entries (plain.append earlier (members_seen ms)) text
  gathered_all before ms i text past so_far earlier are =
      let none : AreTextsIn entries (members_seen (drop i ms)) [] =
      subst (λ (xs : List Shared). AreTextsIn entries (members_seen xs) []) (sym (drop_all i ms past)) (λ t there. refl) in
      subst (λ (u : List ℕ). AreTextsIn entries (plain.append earlier (members_seen ms)) u) (append-nil text) (so_far earlier are [] none)
