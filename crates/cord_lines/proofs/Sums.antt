-- Sums of groups of blocks.
use Rattle.cord_lines.proofs.Common.{AreFew, AreSumsOf, Block, Bool, CanExchange, Counts, IsModest, List, [], amount, ap, append_assoc}
use Rattle.cord_lines.proofs.Common.{arith, drop, drop-drop, exchanged, false, get_or, length, length-append, length-drop, length-take, min}
use Rattle.cord_lines.proofs.Common.{nat_tests, own, plus, refl, replaced, set, subst, suc, sum_by-append, sum_by-cons, sum_by-take-le, sym}
use Rattle.cord_lines.proofs.Common.{take, take-add, take-append-drop, take_all, total, total_by, true, zero, ℕ, ◌*◌, ◌++◌, ◌+◌, ◌-◌, ◌/◌}
use Rattle.cord_lines.proofs.Common.{◌<◌, ◌^◌, ◌∙◌, ◌∷◌, ◌≡◌, ◌≤◌}
use Rattle.std.proofs.Common.{add-one}
use Rattle.std.specs.Prelude.{nat_lt}
use Rattle.std.specs.List.{sum_by}
use Rattle.std.proofs.Math.ListN.{length-set}
use Rattle.std.proofs.Math.Seq.{take-set-lt}
use Rattle.std.proofs.lemmas.List.{drop_min, get_or-drop, get_or-take, set_split, take_min, take_more, drop-set-lt, drop-set-add, set-append_right, take-set-le}
use Rattle.std.proofs.lemmas.List.Sums.{sum_by_more, sum_by_more_le, sum_by-set, sum_by-take-drop}
use Rattle.cord_lines.specs.declared.blocks.Found.{Found}
use Rattle.cord_lines.specs.declared.blocks.Measure.{Measure}
use Rattle.cord_lines.specs.inner.Blocks.{AreWithin, IsGroup}
use Rattle.cord_lines.specs.inner.Edits.{CanReplace}
use Rattle.cord_lines.proofs.Countings.{alike, plus_assoc, same_counts}

-- what is so of the sums of all numbers is so of the three sums of counts
module _ {A : Type 0} (part : A → Counts) (l r : (A → ℕ) → ℕ) where
  abbrev three : ((A → ℕ) → ℕ) → Counts
  three sum = record { bytes = sum (λ x. (part x).bytes); ends = sum (λ x. (part x).ends); chars = sum (λ x. (part x).chars) }

  same_by : ((f : A → ℕ) → l f ≡ r f) → three l ≡ three r
  same_by h = same_counts (three l) (three r)
      (record { bytes = h (λ x. (part x).bytes); ends = h (λ x. (part x).ends); chars = h (λ x. (part x).chars) })

  within_by : ((f : A → ℕ) → l f ≤ r f) → AreWithin (three l) (three r)
  within_by h = record { bytes = h (λ x. (part x).bytes); ends = h (λ x. (part x).ends); chars = h (λ x. (part x).chars) }

-- what some have together, and others
pub total-append : {A : Type 0} (part : A → Counts) (x y : List A) → total_by part (x ++ y) ≡ plus (total_by part x) (total_by part y)
total-append part x y = same_by part (λ f. sum_by f (x ++ y)) (λ f. sum_by f x + sum_by f y) (λ f. sum_by-append f x y)

pub total-cons : {A : Type 0} (part : A → Counts) (b : A) (x : List A) → total_by part (b ∷ x) ≡ plus (part b) (total_by part x)
total-cons part b x = same_by part (λ f. sum_by f (b ∷ x)) (λ f. f b + sum_by f x) (λ f. sum_by-cons f b x)

-- a part of some that are few, or that a text can have
pub few_within : {part all : Counts} → AreWithin part all → AreFew all → AreFew part
few_within within few = omega arith

pub modest_within : {part all : Counts} → AreWithin part all → IsModest all → IsModest part
modest_within within modest = omega arith

module _ {A : Type 0} (xs : List A) (n m : ℕ) (e : m ≡ min (length xs) n) where
  m-is : m ≡ min n (length xs)
  m-is = omega (arith, e)

  pub min_prefix : take m xs ≡ take n xs
  min_prefix = ap (λ (k : ℕ). take k xs) m-is ∙ take_min n xs

  pub min_back : drop m xs ≡ drop n xs
  min_back = ap (λ (k : ℕ). drop k xs) m-is ∙ drop_min n xs

module _ {A : Type 0} (part : A → Counts) where
  -- the first groups
  pub sums_prefix : (i : ℕ) (sums : List Counts) (bs : List A) → AreSumsOf part sums bs → total_by own (take i sums) ≡ total_by part (take (i * 64) bs)
  sums_prefix zero sums bs s = let none : 0 ≡ 0 * 64 = omega arith in ap (λ (n : ℕ). total_by part (take n bs)) none
  sums_prefix (suc i) [] bs s = sym (ap (λ (y : List A). total_by part (take (suc i * 64) y)) s ∙ ap (total_by part)
      (take_all (suc i * 64) [] (omega arith)))
  sums_prefix (suc i) (sum ∷ sums) bs (here, some, more) =
      let more-is : 64 + i * 64 ≡ suc i * 64 = omega arith in
      total-cons own sum (take i sums) ∙ ap (λ (a : Counts). plus a (total_by own (take i sums))) here
      ∙ ap (plus (total_by part (take 64 bs))) (sums_prefix i sums (drop 64 bs) more)
      ∙ sym (total-append part (take 64 bs) (take (i * 64) (drop 64 bs)))
      ∙ ap (total_by part) (sym (take-add 64 (i * 64) bs)) ∙ ap (λ (n : ℕ). total_by part (take n bs)) more-is

  -- all of them
  pub sums_all : (sums : List Counts) (bs : List A) → AreSumsOf part sums bs → total_by own sums ≡ total_by part bs
  sums_all [] bs s = ap (total_by part) (sym s)
  sums_all (sum ∷ sums) bs (here, some, more) =
      total-cons own sum sums ∙ ap (λ (a : Counts). plus a (total_by own sums)) here ∙ ap (plus (total_by part (take 64 bs))) (sums_all sums (drop 64 bs) more)
      ∙ sym (total-append part (take 64 bs) (drop 64 bs)) ∙ ap (total_by part) (take-append-drop 64 bs)

  -- there are as many groups as the blocks need
  pub enough : (sums : List Counts) (bs : List A) → AreSumsOf part sums bs → length bs ≤ length sums * 64
  enough [] bs s = let none : length bs ≡ 0 = ap (λ (y : List A). length y) s in omega (arith, none)
  enough (sum ∷ sums) bs (here, some, more) = omega (arith, enough sums (drop 64 bs) more, length-drop 64 bs)

  -- some first ones, and those after them
  pub first_within : (bs : List A) (i : ℕ) → AreWithin (total_by part (take i bs)) (total_by part bs)
  first_within bs i = within_by part (λ f. sum_by f (take i bs)) (λ f. sum_by f bs) (λ f. sum_by-take-le f bs i)

  pub back_within : (bs : List A) (i : ℕ) → AreWithin (total_by part (drop i bs)) (total_by part bs)
  back_within bs i = within_by part (λ f. sum_by f (drop i bs)) (λ f. sum_by f bs) (λ f. omega (arith, sum_by-take-drop f bs i))

  block_within : (bs : List A) (j : ℕ) (d : A) → j < length bs → AreWithin (part (get_or bs j d)) (total_by part bs)
  block_within bs j d lt = within_by part (λ f. f (get_or bs j d)) (λ f. sum_by f bs) (λ f. omega (arith, sum_by_more_le f bs j d lt))

  -- one is put into the place of another one
  total_set : (bs : List A) (j : ℕ) (b d : A) → j < length bs →
      plus (total_by part (set bs j b)) (part (get_or bs j d)) ≡ plus (total_by part bs) (part b)
  total_set bs j b d lt = same_by part (λ f. sum_by f (set bs j b) + f (get_or bs j d)) (λ f. sum_by f bs + f b)
      (λ f. sum_by-set f bs j b d lt)

  exchanged_set : (bs : List A) (j : ℕ) (b d : A) → j < length bs →
      exchanged (total_by part bs) (part (get_or bs j d)) (part b) ≡ total_by part (set bs j b)
  exchanged_set bs j b d lt =
      let both = alike (total_set bs j b d lt) in
      let within = block_within bs j d lt in
      same_counts (exchanged (total_by part bs) (part (get_or bs j d)) (part b)) (total_by part (set bs j b)) (omega arith)

  sums_set : (k j : ℕ) (sums : List Counts) (bs : List A) (b d : A) (e : Counts) → AreSumsOf part sums bs → k * 64 ≤ j → j < k * 64 + 64 →
      j < length bs → AreSumsOf part (set sums k (exchanged (get_or sums k e) (part (get_or bs j d)) (part b))) (set bs j b)
  sums_set k j [] bs b d e s from to lt = ap (λ (y : List A). set y j b) s
  sums_set zero j (sum ∷ sums) bs b d e (here, some, more) from to lt =
      let first : j < 64 = omega (arith, to) in
      let inside : j < length (take 64 bs) = omega (arith, first, lt, length-take 64 bs) in (
        ap (λ (a : Counts). exchanged a (part (get_or bs j d)) (part b)) here
            ∙ ap (λ (c : A). exchanged (total_by part (take 64 bs)) (part c) (part b)) (sym (get_or-take 64 bs j d first))
            ∙ exchanged_set (take 64 bs) j b d inside ∙ ap (total_by part) (sym (take-set-lt 64 bs j b first)),
        rw length-set some,
        subst (λ (y : List A). AreSumsOf part sums y) (sym (drop-set-lt 64 bs j b first)) more,
      )
  sums_set (suc k) j (sum ∷ sums) bs b d e (here, some, more) from to lt =
      let ge : 64 ≤ j = omega (arith, from) in
      let at : j ≡ 64 + (j - 64) = omega (arith, ge) in
      let rest : drop 64 (set bs j b) ≡ set (drop 64 bs) (j - 64) b = ap (λ (n : ℕ). drop 64 (set bs n b)) at ∙ drop-set-add 64 bs (j - 64) b in
      let old : get_or (drop 64 bs) (j - 64) d ≡ get_or bs j d = get_or-drop 64 bs (j - 64) d ∙ ap (λ (n : ℕ). get_or bs n d) (sym at) in
      let later = sums_set k (j - 64) sums (drop 64 bs) b d e more (omega (arith, from)) (omega (arith, from, to)) (omega (arith, lt, length-drop 64 bs, ge)) in (
        here ∙ ap (total_by part) (sym (take-set-le 64 bs j b ge)),
        rw length-set some,
        subst (λ (y : List A). AreSumsOf part (set sums k (exchanged (get_or sums k e) (part (get_or bs j d)) (part b))) y) (sym rest)
            (subst (λ (c : A). AreSumsOf part (set sums k (exchanged (get_or sums k e) (part c) (part b))) (set (drop 64 bs) (j - 64) b)) old later),
      )

  sum_at : (k : ℕ) (sums : List Counts) (bs : List A) (e : Counts) → AreSumsOf part sums bs → k < length sums →
      get_or sums k e ≡ total_by part (take 64 (drop (k * 64) bs))
  sum_at k [] bs e s lt = absurd (omega (arith, lt))
  sum_at zero (sum ∷ sums) bs e (here, some, more) lt = let none : 0 ≡ 0 * 64 = omega arith in here ∙ ap (λ (n : ℕ). total_by part (take 64 (drop n bs))) none
  sum_at (suc k) (sum ∷ sums) bs e (here, some, more) lt =
      let more-is : 64 + k * 64 ≡ suc k * 64 = omega arith in
      sum_at k sums (drop 64 bs) e more (omega (arith, lt))
      ∙ ap (λ (y : List A). total_by part (take 64 y)) (drop-drop (k * 64) 64 bs ∙ ap (λ (n : ℕ). drop n bs) more-is)

  -- the sum of the group of a block
  module _ (j : ℕ) (sums : List Counts) (bs : List A) (d : A) (e : Counts) (s : AreSumsOf part sums bs) (lt : j < length bs) where
    abbrev group : List A
    group = take 64 (drop (j / 64 * 64) bs)

    sum : get_or sums (j / 64) e ≡ total_by part group
    sum = sum_at (j / 64) sums bs e s (omega (arith, lt, enough sums bs s))

    same : get_or group (j - j / 64 * 64) d ≡ get_or bs j d
    same = (let at : j / 64 * 64 + (j - j / 64 * 64) ≡ j = omega arith in
        get_or-take 64 (drop (j / 64 * 64) bs) (j - j / 64 * 64) d (omega arith) ∙ get_or-drop (j / 64 * 64) bs (j - j / 64 * 64) d
        ∙ ap (λ (n : ℕ). get_or bs n d) at)

    inside : j - j / 64 * 64 < length group
    inside = omega (arith, lt, length-take 64 (drop (j / 64 * 64) bs), length-drop (j / 64 * 64) bs)

    group_within : AreWithin (part (get_or bs j d)) (get_or sums (j / 64) e)
    group_within = subst (λ (c : A). AreWithin (part c) (get_or sums (j / 64) e)) same
        (subst (λ (a : Counts). AreWithin (part (get_or group (j - j / 64 * 64) d)) a) (sym sum) (block_within group (j - j / 64 * 64) d inside))

    group_few : (b : A) → AreFew (exchanged (total_by part bs) (part (get_or bs j d)) (part b)) →
        AreFew (exchanged (get_or sums (j / 64) e) (part (get_or bs j d)) (part b))
    group_few b f = (let is = alike sum in
        let member = group_within in
        let first = first_within (drop (j / 64 * 64) bs) 64 in
        let rest = back_within bs (j / 64 * 64) in
        omega arith)

  -- one is replaced, and its part of the sums
  module _ (j : ℕ) (sums : List Counts) (bs : List A) (b d : A) (e old new : Counts) (groups : AreSumsOf part sums bs)
      (sum-is : e ≡ get_or sums (j / 64) e) (old-is : old ≡ part (get_or bs j d)) (new-is : new ≡ part b) (lt : j < length bs) where
    changed : exchanged e old new ≡ exchanged (get_or sums (j / 64) e) (part (get_or bs j d)) (part b)
    changed = ap (λ (a : Counts). exchanged a old new) sum-is ∙ ap (λ (a : Counts). exchanged (get_or sums (j / 64) e) a new) old-is
        ∙ ap (exchanged (get_or sums (j / 64) e) (part (get_or bs j d))) new-is

    pub sum_can : AreFew (total_by part (set bs j b)) → CanExchange e old new
    sum_can f = record {
      within = subst (λ (a : Counts). AreWithin a e) (sym old-is) (subst (λ (a : Counts). AreWithin (part (get_or bs j d)) a) (sym sum-is)
          (group_within j sums bs d e groups lt));
      few = subst AreFew (sym changed) (group_few j sums bs d e groups lt b (subst AreFew (sym (exchanged_set bs j b d lt)) f));
    }

    pub sum_changed : (s : Counts) → s ≡ exchanged e old new → AreSumsOf part (set sums (j / 64) s) (set bs j b)
    sum_changed s s-is = subst (λ (c : Counts). AreSumsOf part (set sums (j / 64) c) (set bs j b)) (sym (s-is ∙ changed))
        (sums_set (j / 64) j sums bs b d e groups (omega arith) (omega arith) lt)

  -- and the sum of all
  module _ (j : ℕ) (bs : List A) (b d : A) (all old new : Counts) (whole : all ≡ total_by part bs) (old-is : old ≡ part (get_or bs j d))
      (new-is : new ≡ part b) (lt : j < length bs) where
    pub all_is : exchanged all old new ≡ total_by part (set bs j b)
    all_is = ap (λ (a : Counts). exchanged a old new) whole ∙ ap (λ (a : Counts). exchanged (total_by part bs) a new) old-is
        ∙ ap (exchanged (total_by part bs) (part (get_or bs j d))) new-is ∙ exchanged_set bs j b d lt

    pub all_can : AreFew (total_by part (set bs j b)) → CanExchange all old new
    all_can f = record {
      within = subst (λ (a : Counts). AreWithin a all) (sym old-is) (subst (λ (a : Counts). AreWithin (part (get_or bs j d)) a) (sym whole)
          (block_within bs j d lt));
      few = subst AreFew (sym all_is) f;
    }

  -- one more
  pub one_block_more : (bs : List A) (i : ℕ) (d : A) → i < length bs → total_by part (take (i + 1) bs) ≡ plus (total_by part (take i bs)) (part (get_or bs i d))
  one_block_more bs i d lt = same_by part (λ f. sum_by f (take (i + 1) bs)) (λ f. sum_by f (take i bs) + f (get_or bs i d))
      (λ f. sum_by_more f bs i d lt)

  -- others before, and one more
  pub none_yet : (others : Counts) (bs : List A) → others ≡ plus others (total_by part (take 0 bs))
  none_yet others bs = same_counts others (plus others (total_by part (take 0 bs))) (omega arith)

  module _ (others before : Counts) (bs : List A) (i : ℕ) (d : A) (lt : i < length bs) (e : before ≡ plus others (total_by part (take i bs))) where
    pub then_next : (after : Counts) → after ≡ plus before (part (get_or bs i d)) → after ≡ plus others (total_by part (take (i + 1) bs))
    then_next after f =
        f ∙ ap (λ (a : Counts). plus a (part (get_or bs i d))) e ∙ plus_assoc others (total_by part (take i bs)) (part (get_or bs i d))
        ∙ ap (plus others) (sym (one_block_more bs i d lt))

    pub few_after : AreFew (plus others (total_by part bs)) → AreFew (plus before (part (get_or bs i d)))
    few_after f = (let all = alike (then_next (plus before (part (get_or bs i d))) refl) in
        let within = first_within bs (i + 1) in
        omega arith)

  -- where some groups come before the members of a group are one
  pub group_of : (sums : List Counts) (bs : List A) (measure : Measure) (target : ℕ) (found : Found) → AreSumsOf part sums bs → AreFew (total_by part bs) →
      length bs < 2 ^ 64 → found.before ≡ total_by own (take found.index sums) → amount measure found.before ≤ target → IsGroup part bs measure target found
  group_of sums bs measure target found s few short before most = record {
    few = few;
    short = short;
    before = before ∙ sums_prefix found.index sums bs s;
    most = most;
  }

  -- some of a group, after what is before it
  module _ (bs : List A) (measure : Measure) (target : ℕ) (found : Found) (is : IsGroup part bs measure target found) (start : ℕ)
      (here : start ≡ min (length bs) (found.index * 64)) where
    abbrev rest : List A
    rest = take (length bs - start) (drop start bs)

    pub then_some : (n : ℕ) → plus found.before (total_by part (take n rest)) ≡ total_by part (take (start + n) bs)
    then_some n =
        ap (λ (a : Counts). plus a (total_by part (take n rest))) (is.before ∙ ap (total_by part) (sym (min_prefix bs (found.index * 64) start here)))
        ∙ ap (λ (y : List A). plus (total_by part (take start bs)) (total_by part (take n y)))
        (take_all (length bs - start) (drop start bs) (omega (arith, length-drop start bs)))
        ∙ sym (total-append part (take start bs) (take n (drop start bs))) ∙ ap (total_by part) (sym (take-add start n bs))

    pub few_some : (n : ℕ) → AreFew (plus found.before (total_by part (take n rest)))
    few_some n = subst AreFew (sym (then_some n)) (few_within (first_within bs (start + n)) is.few)

-- one block in the place of another one
pub set_one : (xs : List Block) (i : ℕ) (y : Block) → i < length xs → set xs i y ≡ replaced xs i 1 (y ∷ [])
set_one xs i y lt = rw add-one (set_split xs i y lt ∙ sym (append_assoc (take i xs) (y ∷ []) (drop (suc i) xs)))

-- some blocks, of which the first ones are replaced
module _ (xs fresh : List Block) (s : ℕ) (can : CanReplace xs s (length fresh) fresh) where
  -- one more is replaced
  pub one_replaced : (now : List Block) (i : ℕ) (d : Block) → now ≡ replaced xs s i (take i fresh) → i < length fresh →
      set now (s + i) (get_or fresh i d) ≡ replaced xs s (i + 1) (take (i + 1) fresh)
  one_replaced now i d is lt =
      let prefix : List Block = take s xs ++ take i fresh in
      let len : length prefix ≡ s + i =
      omega (arith, lt, can.inside, length-append (take s xs) (take i fresh), length-take s xs, length-take i fresh) in
      let some : 0 < length (drop (s + i) xs) = omega (arith, lt, can.inside, length-drop (s + i) xs) in
      let here : (s + i) - (s + i) ≡ 0 = omega arith in
      let next : (s + i) + 1 ≡ s + (i + 1) = omega arith in
      ap (λ (w : List Block). set w (s + i) (get_or fresh i d)) is
      ∙ set-append_right prefix (drop (s + i) xs) (s + i) (s + i) (get_or fresh i d) len (omega arith)
      ∙ ap (λ (n : ℕ). prefix ++ set (drop (s + i) xs) n (get_or fresh i d)) here
      ∙ ap (λ (w : List Block). prefix ++ w) (set_one (drop (s + i) xs) 0 (get_or fresh i d) some)
      ∙ ap (λ (w : List Block). prefix ++ ((get_or fresh i d ∷ []) ++ w)) (drop-drop 1 (s + i) xs ∙ ap (λ (n : ℕ). drop n xs) next)
      ∙ sym (append_assoc prefix (get_or fresh i d ∷ []) (drop (s + (i + 1)) xs))
      ∙ ap (λ (w : List Block). w ++ drop (s + (i + 1)) xs) (append_assoc (take s xs) (take i fresh) (get_or fresh i d ∷ [])
      ∙ ap (λ (w : List Block). take s xs ++ w) (sym (take_more fresh i d lt)))

  -- they hold no more than those before and after do together
  sum_between : (f : Block → ℕ) (i : ℕ) → sum_by f (replaced xs s i (take i fresh)) ≤ sum_by f xs + sum_by f (replaced xs s (length fresh) fresh)
  sum_between f i = omega (
    arith,
    sum_by-append f (take s xs ++ take i fresh) (drop (s + i) xs),
    sum_by-append f (take s xs) (take i fresh),
    sum_by-append f (take s xs ++ fresh) (drop (s + length fresh) xs),
    sum_by-append f (take s xs) fresh,
    sum_by-take-le f fresh i,
    sum_by-take-drop f xs (s + i),
  )

  pub replaced_few : (i : ℕ) → AreFew (total (replaced xs s i (take i fresh)))
  replaced_few i = omega (arith, sum_between (λ (b : Block). b.bytes) i, sum_between (λ (b : Block). b.ends) i, sum_between (λ (b : Block). b.chars) i)

-- where not all bytes are passed a block is left
pub room : (bs : List Block) (n p : ℕ) → p ≡ (total (take n bs)).bytes → n ≤ length bs → p < (total bs).bytes → n < length bs
room bs n p here le less = cases (nat_lt n (length bs)) refl
  where
    cases : (is : Bool) → nat_lt n (length bs) ≡ is → n < length bs
    cases true h = grind (arith, nat_tests)
    cases false h =
        let all : take n bs ≡ bs = take_all n bs (grind (arith, nat_tests)) in
        absurd (omega (arith, here, less, ap (λ (ys : List Block). (total ys).bytes) all))
