-- Cords are put one after another, short leaves first.
use Rattle.cord_run.proofs.Common.{ℕ, zero, suc, List, [], drop, length, get_or, map, refl, arith, ◌∙◌, sym, ap, subst, append-nil}
use Rattle.cord_run.proofs.Common.{length-append, drop-drop, drop_all, map-append, take_all, take_more, Option, None, Some, take, Node}
use Rattle.cord_run.proofs.Common.{Cell, known, Part, leaf_part, PartsFrom, IsFrom-small, PartsFrom-both, PartsFrom-self, PartsFrom-trans}
use Rattle.cord_run.proofs.Common.{PartsFrom_same, text, text_len, parts_of, IsCord, all_text, all_len, all_parts, IsLeafOf, IsCatting}
use Rattle.cord_run.proofs.Common.{catting_step, ArePreceding, IsJoinOfFirst, ◌≡◌, ◌<◌, ◌≤◌, ◌+◌, ◌-◌, ◌∷◌, ◌++◌, SMALL_LEN}
use Rattle.std.proofs.lemmas.List.{length-drop}
use Rattle.std.specs.Rc.{rc_slice_items}
use Rattle.cord_node.specs.declared.Node.TheVariants.{Leaf, Run, Func, Cat'}
use Rattle.cord_core.proofs.Parts.{leaf_text, leaf_len}
use Rattle.cord_run.proofs.Ranges.{all_len_more, all_more, all_split}

-- the first so many, and those after them
texts_split : (n : ℕ) (cs : List (Option Node)) → all_text (take n cs) ++ all_text (drop n cs) ≡ all_text cs
texts_split = all_split all_text text refl (λ c cs. refl)

lengths_split : (n : ℕ) (cs : List (Option Node)) → all_len (take n cs) + all_len (drop n cs) ≡ all_len cs
lengths_split zero cs = omega arith
lengths_split (suc n) [] = refl
lengths_split (suc n) (c ∷ cs) = let rest = lengths_split n cs in omega (arith, rest)

parts_split : (n : ℕ) (cs : List (Option Node)) → all_parts (take n cs) ++ all_parts (drop n cs) ≡ all_parts cs
parts_split = all_split all_parts parts_of refl (λ c cs. refl)

texts_more : (cs : List (Option Node)) (c : Option Node) → all_text (cs ++ c ∷ []) ≡ all_text cs ++ text c
texts_more = all_more all_text text refl (λ c cs. refl)

parts_more : (cs : List (Option Node)) (c : Option Node) → all_parts (cs ++ c ∷ []) ≡ all_parts cs ++ parts_of c
parts_more = all_more all_parts parts_of refl (λ c cs. refl)

-- one leaf of few bytes has its part from any parts that there are
pub leaf_from : (b : List ℕ) (c : Option Node) → IsLeafOf b c → length b ≤ SMALL_LEN → (ps : List Part) → 0 < length ps →
    PartsFrom ps (parts_of c)
leaf_from b None is few ps some = record { no_more = omega arith; from_there = tt }
leaf_from b (Some (Leaf len bytes start mark)) is few ps some = record {
  no_more = omega (arith, some);
  from_there = (IsFrom-small (leaf_part (rc_slice_items bytes) start len) ps (omega (arith, is.2, few)), tt);
}
leaf_from b (Some (Run byte len)) is few ps some = absurd is
leaf_from b (Some (Func id len start)) is few ps some = absurd is
leaf_from b (Some (Cat' mark depth len p left q right count)) is few ps some = absurd is

module _ (cords : List (Option Node)) where
  -- none are in front
  pub none_preceding : (bytes : List ℕ) → bytes ≡ [] → ArePreceding cords 0 bytes
  none_preceding bytes none = rw none (record { within = omega arith; text = refl; len = refl; parts = omega arith; few = omega arith })

  -- one more is
  pub more_preceding : (n : ℕ) (c : Option Node) → n < length cords → c ≡ get_or cords n c → (bytes slice more : List ℕ) →
      text c ≡ map known slice → text_len c ≡ length slice → 0 < length (parts_of c) → more ≡ bytes ++ slice → length more ≤ SMALL_LEN →
      ArePreceding cords n bytes → ArePreceding cords (n + 1) more
  more_preceding n c here is bytes slice more t l p grown few prefix =
      let next : take (n + 1) cords ≡ take n cords ++ c ∷ [] =
      take_more cords n c here ∙ ap (λ (d : Option Node). take n cords ++ d ∷ []) (sym is) in
      let size : length more ≡ length bytes + length slice = ap length grown ∙ length-append bytes slice in
      let parts : all_parts (take (n + 1) cords) ≡ all_parts (take n cords) ++ parts_of c =
      ap all_parts next ∙ parts_more (take n cords) c in
      let many : length (all_parts (take (n + 1) cords)) ≡ length (all_parts (take n cords)) + length (parts_of c) =
      ap length parts ∙ length-append (all_parts (take n cords)) (parts_of c) in
      let long : all_len (take (n + 1) cords) ≡ all_len (take n cords) + text_len c = ap all_len next ∙ all_len_more (take n cords) c in
      record {
        within = omega (arith, here);
        text = ap all_text next ∙ texts_more (take n cords) c ∙ ap (λ (xs : List Cell). xs ++ text c) prefix.text
            ∙ ap (λ (xs : List Cell). map known bytes ++ xs) t ∙ sym (map-append known bytes slice) ∙ ap (map known) (sym grown);
        len = omega (arith, long, prefix.len, l, size);
        parts = omega (arith, many, prefix.parts, p);
        few = few;
      }

  -- they are one leaf of their bytes
  pub leaf_before : (n : ℕ) (bytes : List ℕ) (leaf : Option Node) → ArePreceding cords n bytes → 0 < n → IsCord leaf → IsLeafOf bytes leaf →
      IsJoinOfFirst cords n leaf
  leaf_before n bytes leaf prefix some sound is = record {
    some = some;
    within = prefix.within;
    sound = sound;
    text = leaf_text bytes leaf is ∙ sym prefix.text;
    len = leaf_len bytes leaf is ∙ sym prefix.len;
    parts_from = leaf_from bytes leaf is prefix.few (all_parts (take n cords)) (omega (arith, some, prefix.parts));
  }

-- the first one alone
pub one_preceding : (cords : List (Option Node)) (c : Option Node) → 0 < length cords → c ≡ get_or cords 0 c → IsCord c → IsJoinOfFirst
    cords 1 c
one_preceding [] c some is sound = absurd (omega (arith, some))
one_preceding (x ∷ cords) c some is sound = record {
  some = omega arith;
  within = omega arith;
  sound = sound;
  text = ap text is ∙ sym (append-nil (text x));
  len = let same : text_len c ≡ text_len x = ap text_len is in omega (arith, same);
  parts_from = PartsFrom_same (parts_of x ++ []) (parts_of c) (ap parts_of is ∙ sym (append-nil (parts_of x)));
}

-- the first so many of those that are left become one
grouped : (cords rest : List (Option Node)) (n : ℕ) (z all : Option Node) → IsCatting cords rest all → IsJoinOfFirst rest n z →
    IsCatting cords (z ∷ drop n rest) all
grouped cords rest n z all i f =
    let pair : PartsFrom (all_parts rest) (parts_of z ++ all_parts (drop n rest)) =
    subst (λ (ps : List Part). PartsFrom ps (parts_of z ++ all_parts (drop n rest))) (parts_split n rest)
    (PartsFrom-both (all_parts (take n rest)) (all_parts (drop n rest)) (parts_of z) (all_parts (drop n rest)) f.parts_from
    (PartsFrom-self (all_parts (drop n rest)))) in
    let long = lengths_split n rest in
    record {
      sound = i.sound;
      reported = ap (λ (xs : List Cell). text all ++ (xs ++ all_text (drop n rest))) f.text
          ∙ ap (λ (xs : List Cell). text all ++ xs) (texts_split n rest) ∙ i.reported;
      len = omega (arith, i.len, f.len, long);
      parts_from = PartsFrom-trans (all_parts cords) (parts_of all ++ all_parts rest)
          (parts_of all ++ (parts_of z ++ all_parts (drop n rest)))
          i.parts_from (PartsFrom-both (parts_of all) (all_parts rest) (parts_of all) (parts_of z ++ all_parts (drop n rest))
          (PartsFrom-self (parts_of all)) pair);
    }

-- a slice that goes to the end
to_end : (cords : List (Option Node)) (place : ℕ) → take (length cords - place) (drop place cords) ≡ drop place cords
to_end cords place = let left = length-drop place cords in take_all (length cords - place) (drop place cords) (omega (arith, left))

module _ (cords : List (Option Node)) (place n : ℕ) (z : Option Node)
    (prefix : IsJoinOfFirst (take (length cords - place) (drop place cords)) n z) where
  at_place : IsJoinOfFirst (drop place cords) n z
  at_place = subst (λ (cs : List (Option Node)). IsJoinOfFirst cs n z) (to_end cords place) prefix

  -- one more prefix was joined
  pub prefix_joined : (all next : Option Node) → IsCatting cords (drop place cords) all → IsCord next → text next ≡ text all ++ text z →
      text_len next ≡ text_len all + text_len z → PartsFrom (parts_of all ++ parts_of z) (parts_of next) →
      IsCatting cords (drop (place + n) cords) next
  prefix_joined all next i s t l k =
      subst (λ (cs : List (Option Node)). IsCatting cords cs next) (drop-drop n place cords)
      (catting_step cords z (drop n (drop place cords)) all next (grouped cords (drop place cords) n z all i at_place) s t l k)

  pub prefix_within : place ≤ length cords → place + n ≤ length cords
  prefix_within within = let left = length-drop place cords in omega (arith, at_place.within, left, within)

-- all are joined
pub joined_whole : (cords : List (Option Node)) (place : ℕ) (all : Option Node) → length cords ≤ place →
    IsCatting cords (drop place cords) all → IsCatting cords [] all
joined_whole cords place all past i = subst (λ (cs : List (Option Node)). IsCatting cords cs all) (drop_all place cords past) i
