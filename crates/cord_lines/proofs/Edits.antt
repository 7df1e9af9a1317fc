-- Blocks of a text that is edited.
use Rattle.cord_lines.proofs.Common.{AreBlocksOf, AreFew, AreModest, AreOfSomeText, Block, Counts, FollowEdit, IsEditOf, List, MAX_LEN}
use Rattle.cord_lines.proofs.Common.{Some, [], ap, append-nil, append_assoc, arith, begins_char, block_counts, cond, counts_of, drop}
use Rattle.cord_lines.proofs.Common.{drop-append_seam, drop-drop, exchanged, is_end, length, length-append, length-drop, length-take, min}
use Rattle.cord_lines.proofs.Common.{plus, refl, replaced, set, subst, sum_by-replicate, sum_by-take-le, sym, take, take-add}
use Rattle.cord_lines.proofs.Common.{take-append-drop, take-append-le, take-append_seam, total, ℕ, ◌*◌, ◌++◌, ◌+◌, ◌-◌, ◌<◌, ◌∙◌, ◌∷◌, ◌≡◌}
use Rattle.cord_lines.proofs.Common.{◌≤◌}
use Rattle.std.proofs.Common.{Option}
use Rattle.std.proofs.Math.ListN.{replicate}
use Rattle.std.proofs.lemmas.List.{length-replicate, drop-append-le}
use Rattle.cord_node.proofs.Ranges.{take-append_right, drop-append_right}
use Rattle.cord_lines.specs.declared.renewing.Edit.{Edit}
use Rattle.cord_lines.specs.declared.renewing.Span.{Span}
use Rattle.cord_lines.specs.inner.Edits.{Covers, EditFits, IsExchanged}
use Rattle.cord_lines.proofs.Countings.{alike, chars-le, counts-append, ends-le, plus_assoc, same_counts}
use Rattle.cord_lines.proofs.Ends.{times_ends}
use Rattle.cord_lines.proofs.Cuts.{Split, split, joined, total_is}
use Rattle.cord_lines.proofs.Sums.{first_within, min_back, min_prefix, set_one}

regroup : (a b c d e : List ℕ) → ((a ++ b) ++ c) ++ (d ++ e) ≡ a ++ (((b ++ c) ++ d) ++ e)
regroup a b c d e = simp append_assoc

-- a text in three, of which an edit meets the middle one
module _ (a m z after fresh : List ℕ) (st rem : ℕ) (from : length a ≤ st) (to : st + rem ≤ length a + length m)
    (text : after ≡ take st (a ++ (m ++ z)) ++ fresh ++ drop (st + rem) (a ++ (m ++ z))) where
  abbrev k : ℕ
  k = st - length a

  -- the middle one after the edit
  abbrev pub middle : List ℕ
  middle = (take k m ++ fresh) ++ drop (k + rem) m

  prefix : take st (a ++ (m ++ z)) ≡ a ++ take k m
  prefix = take-append_right a (m ++ z) st from ∙ ap (λ (y : List ℕ). a ++ y) (take-append-le k m z (omega (arith, from, to)))

  back : drop (st + rem) (a ++ (m ++ z)) ≡ drop (k + rem) m ++ z
  back = (let n : (st + rem) - length a ≡ k + rem = omega (arith, from) in
      drop-append_right a (m ++ z) (st + rem) (omega (arith, from)) ∙ ap (λ (i : ℕ). drop i (m ++ z)) n ∙ drop-append-le (k + rem) m z (omega (arith, from, to)))

  pub after_is : after ≡ a ++ (middle ++ z)
  after_is = text ∙ ap (λ (y : List ℕ). (y ++ fresh) ++ drop (st + rem) (a ++ (m ++ z))) prefix ∙
      ap (λ (y : List ℕ). ((a ++ take k m) ++ fresh) ++ y) back
      ∙ regroup a (take k m) fresh (drop (k + rem) m) z

  pub middle-len : length middle ≡ length m - rem + length fresh
  middle-len = omega (arith, length-append (take k m ++ fresh) (drop (k + rem) m), length-append (take k m) fresh, length-take k m, length-drop (k + rem) m, from, to)

  pub middle_at : (n : ℕ) → n ≡ length m - rem + length fresh → take n (drop (length a) after) ≡ middle
  middle_at n e = ap (λ (y : List ℕ). take n (drop (length a) y)) after_is ∙ ap (take n) (drop-append_seam a (middle ++ z))
      ∙ ap (λ (i : ℕ). take i (middle ++ z)) (e ∙ sym middle-len) ∙ take-append_seam middle z

-- an edit whose numbers go past the end
pub capped : (x after fresh : List ℕ) (start count from removed inserted : ℕ) → after ≡ take start x ++ fresh ++ drop (start + count) x →
    from ≡ min start (length x) → removed ≡ min count (length x - from) → length fresh ≡ inserted → IsEditOf x after from removed inserted
capped x after fresh start count from removed inserted text from-is removed-is len =
    record {
      fresh = fresh;
      count = len;
      inside = omega (arith, from-is, removed-is);
      text = text ∙ ap (λ (y : List ℕ). y ++ fresh ++ drop (start + count) x) (sym (min_prefix x start from (omega (arith, from-is))))
          ∙ ap (λ (y : List ℕ). take from x ++ fresh ++ y) (sym (min_back x (start + count) (from + removed) (omega (arith, from-is, removed-is))));
    }

-- what an edit takes out of the middle one
removed_at : (a m z : List ℕ) (st rem : ℕ) → length a ≤ st → st + rem ≤ length a + length m →
    take rem (drop st (a ++ (m ++ z))) ≡ take rem (drop (st - length a) m)
removed_at a m z st rem from to =
    let k : ℕ = st - length a in
    let rest : drop st (a ++ (m ++ z)) ≡ drop k m ++ z = drop-append_right a (m ++ z) st from ∙ drop-append-le k m z (omega (arith, from, to)) in
    ap (take rem) rest ∙ take-append-le rem (drop k m) z (omega (arith, from, to, length-drop k m))

-- a part of some bytes is replaced
in_three : (m : List ℕ) (k rem : ℕ) →
    counts_of m ≡ plus (plus (counts_of (take k m)) (counts_of (take rem (drop k m)))) (counts_of (drop (k + rem) m))
in_three m k rem =
    let here = counts_of (take k m) in
    let out = counts_of (take rem (drop k m)) in
    ap counts_of (sym (take-append-drop k m)) ∙ counts-append (take k m) (drop k m)
    ∙ ap (plus here) (ap counts_of (sym (take-append-drop rem (drop k m))) ∙ counts-append (take rem (drop k m)) (drop rem (drop k m))
    ∙ ap (λ (y : List ℕ). plus out (counts_of y)) (drop-drop rem k m))
    ∙ sym (plus_assoc here out (counts_of (drop (k + rem) m)))

exchanged_part : (m fresh : List ℕ) (k rem : ℕ) →
    exchanged (counts_of m) (counts_of (take rem (drop k m))) (counts_of fresh) ≡ counts_of ((take k m ++ fresh) ++ drop (k + rem) m)
exchanged_part m fresh k rem =
    let all = alike (in_three m k rem) in
    let out = counts_of (take rem (drop k m)) in
    let then = plus (plus (counts_of (take k m)) (counts_of fresh)) (counts_of (drop (k + rem) m)) in
    same_counts (exchanged (counts_of m) out (counts_of fresh)) then (omega arith)
    ∙ sym (counts-append (take k m ++ fresh) (drop (k + rem) m) ∙ ap (λ (c : Counts). plus c (counts_of (drop (k + rem) m))) (counts-append (take k m) fresh))

-- blocks of a text, some of which are replaced
module _ (bs news : List Block) (x : List ℕ) (c : AreBlocksOf bs x) (first count start bytes : ℕ)
    (here : start ≡ (total (take first bs)).bytes) (end : start + bytes ≡ (total (take (first + count) bs)).bytes) where
  abbrev s : Split first bs x
  s = split first bs x c

  abbrev r : Split count (drop first bs) s.back
  r = split count (drop first bs) s.back s.second

  text : x ≡ s.prefix ++ (r.prefix ++ r.back)
  text = s.text ∙ ap (λ (y : List ℕ). s.prefix ++ y) r.text

  prefix-len : start ≡ length s.prefix
  prefix-len = here ∙ ap (λ (a : Counts). a.bytes) (total_is (take first bs) s.prefix s.first)

  both : AreBlocksOf (take (first + count) bs) (s.prefix ++ r.prefix)
  both = subst (λ (ys : List Block). AreBlocksOf ys (s.prefix ++ r.prefix)) (sym (take-add first count bs))
      (joined (take first bs) (take count (drop first bs)) s.prefix r.prefix s.first r.first)

  middle-is : bytes ≡ length r.prefix
  middle-is = (let all = end ∙ ap (λ (a : Counts). a.bytes) (total_is (take (first + count) bs) (s.prefix ++ r.prefix) both) in
      omega (arith, all, prefix-len, length-append s.prefix r.prefix))

  after_of : (piece : List ℕ) → AreBlocksOf news piece → AreBlocksOf (replaced bs first count news) (s.prefix ++ (piece ++ r.back))
  after_of piece n = subst (λ (ys : List Block). AreBlocksOf ys (s.prefix ++ (piece ++ r.back)))
      (sym (append_assoc (take first bs) news (drop (first + count) bs)))
      (joined (take first bs) (news ++ drop (first + count) bs) s.prefix (piece ++ r.back) s.first
      (joined news (drop (first + count) bs) piece r.back n (subst (λ (ys : List Block). AreBlocksOf ys r.back) (drop-drop count first bs) r.second)))

  -- the result is of some text
  pub of_some : (piece : List ℕ) → AreBlocksOf news piece → length x - bytes + length piece ≤ MAX_LEN → AreOfSomeText (replaced bs first count news)
  of_some piece n le = record {
    text = s.prefix ++ (piece ++ r.back);
    cut = after_of piece n;
    limit = omega (arith, le, ap (λ (y : List ℕ). length y) text, middle-is, length-append {A = ℕ});
  }

  -- what they hold
  own_is : (own : Counts) → total (take (first + count) bs) ≡ plus (total (take first bs)) own → own ≡ counts_of r.prefix
  own_is own e = (let sum : plus (counts_of s.prefix) own ≡ plus (counts_of s.prefix) (counts_of r.prefix) =
      ap (λ (a : Counts). plus a own) (sym (total_is (take first bs) s.prefix s.first)) ∙ sym e
      ∙ total_is (take (first + count) bs) (s.prefix ++ r.prefix) both ∙ counts-append s.prefix r.prefix in
      let same = alike sum in
      same_counts own (counts_of r.prefix) (omega arith))

  -- an edit that they hold
  module _ (after : List ℕ) (st rem ins : ℕ) (e : IsEditOf x after st rem ins) (from : start ≤ st) (to : st + rem ≤ start + bytes) where
    a-from : length s.prefix ≤ st
    a-from = omega (arith, prefix-len, from)

    a-to : st + rem ≤ length s.prefix + length r.prefix
    a-to = omega (arith, prefix-len, middle-is, to)

    edited : after ≡ take st (s.prefix ++ (r.prefix ++ r.back)) ++ e.fresh ++ drop (st + rem) (s.prefix ++ (r.prefix ++ r.back))
    edited = subst (λ (y : List ℕ). after ≡ take st y ++ e.fresh ++ drop (st + rem) y) text e.text

    abbrev m : List ℕ
    m = middle s.prefix r.prefix r.back after e.fresh st rem a-from a-to edited

    follows : AreBlocksOf news m → AreBlocksOf (replaced bs first count news) after
    follows n = subst (λ (y : List ℕ). AreBlocksOf (replaced bs first count news) y)
        (sym (after_is s.prefix r.prefix r.back after e.fresh st rem a-from a-to edited)) (after_of m n)

    -- the new ones are those of what is there
    pub renewed : (len : ℕ) → len ≡ bytes - rem + ins → AreBlocksOf news (take len (drop start after)) → AreBlocksOf (replaced bs first count news) after
    renewed len new-len n =
        let there : take len (drop start after) ≡ m = ap (λ (n : ℕ). take len (drop n after)) prefix-len
        ∙ middle_at s.prefix r.prefix r.back after e.fresh st rem a-from a-to edited len (omega (arith, new-len, middle-is, e.count)) in
        follows (subst (λ (y : List ℕ). AreBlocksOf news y) there n)

    -- a part of one block is replaced
    module _ (own removed : Counts) (own-is : total (take (first + count) bs) ≡ plus (total (take first bs)) own)
        (removed-is : removed ≡ counts_of (take rem (drop st x))) where
      part-is : removed ≡ counts_of (take rem (drop (st - length s.prefix) r.prefix))
      part-is = removed-is ∙ ap (λ (y : List ℕ). counts_of (take rem (drop st y))) text
          ∙ ap counts_of (removed_at s.prefix r.prefix r.back st rem a-from a-to)

      counts_then : exchanged own removed (counts_of e.fresh) ≡ counts_of m
      counts_then = ap (λ (a : Counts). exchanged a removed (counts_of e.fresh)) (own_is own own-is)
          ∙ ap (λ (a : Counts). exchanged (counts_of r.prefix) a (counts_of e.fresh)) part-is
          ∙ exchanged_part r.prefix e.fresh (st - length s.prefix) rem

      pub exchanged_in : (b : Block) → block_counts b ≡ exchanged own removed (counts_of e.fresh) → news ≡ b ∷ [] →
          AreBlocksOf (replaced bs first count news) after
      exchanged_in b counted one = follows (subst (λ (ys : List Block). AreBlocksOf ys m) (sym one) (m, [], sym (append-nil m), counted ∙ counts_then, refl))

-- the blocks that an edit meets are replaced by those of as many bytes as there are then
module _ {bs : List Block} {span : Span} {edit : Edit} (news : List Block) (after : List ℕ) (covers : Covers bs span edit) where
  pub replaced_by : AreOfSomeText bs → EditFits edit (total bs).bytes (length after) → length after ≤ MAX_LEN →
      (piece : List ℕ) → length piece ≤ span.bytes - edit.removed + edit.inserted → AreBlocksOf news piece →
      AreOfSomeText (replaced bs span.first span.count news)
  replaced_by some fits le piece fewer cut =
      let whole = alike (total_is bs some.text some.cut) in
      of_some bs news some.text some.cut span.first span.count span.start span.bytes covers.span.start covers.span.end piece cut
      (omega (arith, fits.len, sum_by-take-le (λ (b : Block). b.bytes) bs (span.first + span.count)))

  abbrev len : ℕ
  len = span.bytes - edit.removed + edit.inserted

  -- by those of what is there
  module _ (cut : AreBlocksOf news (take ((span.start + len) - span.start) (drop span.start after))) where
    pub replaced_some : AreOfSomeText bs → EditFits edit (total bs).bytes (length after) → length after ≤ MAX_LEN →
        AreOfSomeText (replaced bs span.first span.count news)
    replaced_some some fits le =
        let n : ℕ = (span.start + len) - span.start in
        replaced_by some fits le (take n (drop span.start after)) (omega (arith, length-take n (drop span.start after))) cut

    pub replaced_follow : (removed : Option Counts) → FollowEdit bs (replaced bs span.first span.count news) after edit removed
    replaced_follow removed = λ before here known edited.
        renewed bs news before here span.first span.count span.start span.bytes covers.span.start covers.span.end after edit.start edit.removed
        edit.inserted edited covers.from covers.to ((span.start + len) - span.start) (omega arith) cut

-- some bytes with given counts
abbrev bytes_with : ℕ → ℕ → ℕ → List ℕ
bytes_with n e c = replicate e 10 ++ (replicate (c - e) 97 ++ replicate (n - c) 128)

-- the counts of a run
run : (n b e c : ℕ) → cond (is_end b) 1 0 ≡ e → cond (begins_char b) 1 0 ≡ c → counts_of (replicate n b) ≡ record { bytes = n; ends = n * e; chars = n * c }
run n b e c ends chars = same_counts (counts_of (replicate n b)) (record { bytes = n; ends = n * e; chars = n * c }) (record {
  bytes = length-replicate n b;
  ends = times_ends n b e ends;
  chars = sum_by-replicate (λ (i : ℕ). cond (begins_char i) 1 0) n b ∙ ap (λ (i : ℕ). n * i) chars;
})

some_counts : (n e c : ℕ) → e ≤ c → c ≤ n → record { bytes = n; ends = e; chars = c } ≡ counts_of (bytes_with n e c)
some_counts n e c le le2 =
    let first = alike (run e 10 1 1 refl refl) in
    let second = alike (run (c - e) 97 0 1 refl refl) in
    let third = alike (run (n - c) 128 0 0 refl refl) in
    let all = alike (counts-append (replicate e 10) (replicate (c - e) 97 ++ replicate (n - c) 128)) in
    let back = alike (counts-append (replicate (c - e) 97) (replicate (n - c) 128)) in
    same_counts (record { bytes = n; ends = e; chars = c }) (counts_of (bytes_with n e c)) (omega arith)

-- what an edit puts there
fresh_at : (x after : List ℕ) (st rem ins n : ℕ) (e : IsEditOf x after st rem ins) → n ≡ ins → take n (drop st after) ≡ e.fresh
fresh_at x after st rem ins n e is =
    let back : List ℕ = drop (st + rem) x in
    let len : st ≡ length (take st x) = omega (arith, e.inside, length-take st x) in
    ap (λ (y : List ℕ). take n (drop st y)) (e.text ∙ append_assoc (take st x) e.fresh back)
    ∙ ap (λ (k : ℕ). take n (drop k (take st x ++ (e.fresh ++ back)))) len
    ∙ ap (take n) (drop-append_seam (take st x) (e.fresh ++ back))
    ∙ ap (λ (k : ℕ). take k (e.fresh ++ back)) (is ∙ sym e.count) ∙ take-append_seam e.fresh back

-- what a block holds, and some bytes of a text
pub few_with : (bs : List Block) (i : ℕ) (own inserted : Counts) (y : List ℕ) (n : ℕ) → AreModest bs →
    total (take (i + 1) bs) ≡ plus (total (take i bs)) own → inserted ≡ counts_of (take n y) → length y ≤ MAX_LEN → AreFew (plus own inserted)
few_with bs i own inserted y n modest own-is inserted-is le =
    let all = alike own-is in
    let some = alike inserted-is in
    let within = first_within block_counts bs (i + 1) in
    omega (arith, length-take n y, ends-le (take n y), chars-le (take n y))

-- an edit within one block
module _ {bs : List Block} {edit : Edit} {own removed inserted : Counts} {b : Block} {span : Span} (after : List ℕ) (covers : Covers bs span edit)
    (one : span.count ≡ 1) (is : IsExchanged own removed inserted (span.bytes - edit.removed + edit.inserted) b) where
  set-is : replaced bs span.first span.count (b ∷ []) ≡ set bs span.first b
  set-is = (let lt : span.first < length bs = omega (arith, covers.span.inside, one) in
      ap (λ (n : ℕ). replaced bs span.first n (b ∷ [])) one ∙ sym (set_one bs span.first b lt))

  pub set_some : AreOfSomeText bs → EditFits edit (total bs).bytes (length after) → length after ≤ MAX_LEN → AreOfSomeText (set bs span.first b)
  set_some some fits le = (let y : List ℕ = bytes_with b.bytes b.ends b.chars in
      let counted : block_counts b ≡ counts_of y = some_counts b.bytes b.ends b.chars is.ends is.chars in
      let same = alike counted in
      subst AreOfSomeText set-is
      (replaced_by (b ∷ []) after covers some fits le y (omega (arith, is.bytes, same.bytes)) (y, [], sym (append-nil y), counted, refl)))

  pub set_follows : total (take (span.first + 1) bs) ≡ plus (total (take span.first bs)) own →
      inserted ≡ counts_of (take ((edit.start + edit.inserted) - edit.start) (drop edit.start after)) →
      FollowEdit bs (set bs span.first b) after edit (Some removed)
  set_follows own-is inserted-is = λ old cut known edited.
      let n : (edit.start + edit.inserted) - edit.start ≡ edit.inserted = omega arith in
      let both-is = ap (λ (n : ℕ). total (take (span.first + n) bs)) one ∙ own-is in
      let same : inserted ≡ counts_of edited.fresh =
      inserted-is ∙ ap counts_of (fresh_at old after edit.start edit.removed edit.inserted ((edit.start + edit.inserted) - edit.start) edited n) in
      subst (λ (ys : List Block). AreBlocksOf ys after) set-is
      (exchanged_in bs (b ∷ []) old cut span.first span.count span.start span.bytes covers.span.start covers.span.end after edit.start edit.removed
      edit.inserted edited covers.from covers.to own removed both-is known b (is.counts ∙ ap (exchanged own removed) same) refl)
