-- Leaves that a buffer was made into.
use Rattle.std.proofs.Common.{◌≡◌, ℕ, ◌+◌, ◌*◌, ◌<◌, ◌≤◌, min, List, [], ◌∷◌, ◌++◌, length, length-append, map, take, drop, append-nil}
use Rattle.std.proofs.Common.{append_assoc, take-append-drop, refl, sym, ap, ◌∙◌, subst, arith}
use Rattle.std.specs.Prelude.{Option, Some, None}
use Rattle.std.proofs.lemmas.List.{length-map, map-append}
use Rattle.cord_node.specs.declared.Node.{Node}
use Rattle.cord_node.specs.Tree.{Cell, known}
use Rattle.cord_node.specs.declared.Node.TheVariants.{Leaf, Run, Func, Cat'}
use Rattle.cord_node.specs.PartsFrom.{Part, leaf_part, run_part, func_part, IsSmall, IsRangeOf, PartsFrom}
use Rattle.cord_node.proofs.PartsFromLemmas.{PartsFrom-self, PartsFrom-join}
use Rattle.cord_core.specs.Cord.{parts_of, IsCord}
use Rattle.cord_core.specs.Forms.{IsLeafOf}
use Rattle.cord_raw.specs.declared.buffer.TheConstants.RawBuf.{CAP}
use Rattle.cord_ec.specs.Gathered.{leaf_parts, IsGathered, AreFromOr, Gathered}
use Rattle.cord_ec.proofs.MadeLemmas.{IsOwn, are_through, made_from, made_more, made_through, made_after, made_self}

gathered_range : (p q : Part) → IsRangeOf p q → IsGathered q → IsGathered p
gathered_range (leaf_part bytes start len) (leaf_part bytes' start' len') h k = omega (arith, h.1, k)
gathered_range (leaf_part bytes start len) (run_part byte' len') h k = absurd k
gathered_range (leaf_part bytes start len) (func_part id' start' len') h k = absurd k
gathered_range (run_part byte len) (leaf_part bytes' start' len') h k = absurd h
gathered_range (run_part byte len) (run_part byte' len') h k = absurd k
gathered_range (run_part byte len) (func_part id' start' len') h k = absurd k
gathered_range (func_part id start len) (leaf_part bytes' start' len') h k = absurd h
gathered_range (func_part id start len) (run_part byte' len') h k = absurd h
gathered_range (func_part id start len) (func_part id' start' len') h k = absurd k

gathered_small : (p : Part) → IsSmall p → IsGathered p
gathered_small (leaf_part bytes start len) h = omega (arith, h)
gathered_small (run_part byte len) h = absurd h
gathered_small (func_part id start len) h = absurd h

pub gathered_own : IsOwn IsGathered
gathered_own = record { range = gathered_range; small = gathered_small }

-- bytes as one leaf
pub leaf_of_bytes : (b : List ℕ) (c : Option Node) → IsCord c → IsLeafOf b c → parts_of c ≡ leaf_parts b
leaf_of_bytes [] None s h = refl
leaf_of_bytes (x ∷ b) None s h = absurd (cc h)
leaf_of_bytes [] (Some (Leaf len bytes start mark)) s h = absurd (omega (arith, s.0, h.2))
leaf_of_bytes (x ∷ b) (Some (Leaf len bytes start mark)) s h = rw (h.0, h.1, h.2) refl
leaf_of_bytes b (Some (Run byte len)) s h = absurd h
leaf_of_bytes b (Some (Func id len start)) s h = absurd h
leaf_of_bytes b (Some (Cat' mark depth len p left q right count)) s h = absurd h

leaf_gathered : (b : List ℕ) → length b ≤ CAP → AreFromOr IsGathered (leaf_parts b) []
leaf_gathered [] h = tt
leaf_gathered (x ∷ b) h = (h, tt)

one_leaf : (b : List ℕ) → length (leaf_parts b) ≤ 1
one_leaf [] = omega arith
one_leaf (x ∷ b) = omega arith

-- a leaf that grew has no more parts than before, and one for each leaf of what was added
leaf_grown : (a b : List ℕ) (k : ℕ) → length b ≤ k * CAP → length (leaf_parts (a ++ b)) ≤ length (leaf_parts a) + k
leaf_grown [] [] k h = omega arith
leaf_grown [] (x ∷ b) k h = omega (arith, h)
leaf_grown (y ∷ a) b k h = omega arith

pub tail_grown : (ps : List Part) (a b : List ℕ) (k : ℕ) → length (a ++ b) ≤ CAP → length b ≤ k * CAP →
    Gathered k (ps ++ leaf_parts a) (ps ++ leaf_parts (a ++ b))
tail_grown ps a b k fits h = made_after IsGathered gathered_own k ps (leaf_parts a) (leaf_parts (a ++ b)) (leaf_grown a b k h)
    (leaf_gathered (a ++ b) fits)

-- one leaf more
leaf_after : (ps : List Part) (b : List ℕ) → length b ≤ CAP → Gathered 1 ps (ps ++ leaf_parts b)
leaf_after ps b fits = subst (λ (old : List Part). Gathered 1 old (ps ++ leaf_parts b)) (append-nil ps)
    (made_after IsGathered gathered_own 1 ps [] (leaf_parts b) (one_leaf b) (leaf_gathered b fits))

pub leaf_added : (ps new : List Part) (b : List ℕ) → length b ≤ CAP → PartsFrom (ps ++ leaf_parts b) new → Gathered 1 ps new
leaf_added ps new b fits k = made_through IsGathered gathered_own 1 0 ps (ps ++ leaf_parts b) new (leaf_after ps b fits)
    (made_from IsGathered gathered_own (ps ++ leaf_parts b) new k)

-- a leaf of its own after old parts
pub leaf_begun : (old longer : List Part) (b : List ℕ) → length b ≤ CAP → PartsFrom old longer → Gathered 1 old (longer ++ leaf_parts b)
leaf_begun old longer b fits k = made_through IsGathered gathered_own 0 1 old longer (longer ++ leaf_parts b)
    (made_from IsGathered gathered_own old longer k) (leaf_after longer b fits)

-- no bytes after parts
no_bytes : (P : List Part → Type 0) (ps : List Part) (b : List ℕ) → b ≡ [] → P ps → P (ps ++ leaf_parts b)
no_bytes P ps b none h = subst (λ (x : List ℕ). P (ps ++ leaf_parts x)) (sym none) (subst P (sym (append-nil ps)) h)

-- what is gathered after old parts, and no bytes after that
pub leaves_added : (old so_far new : List Part) (b : List ℕ) (m : ℕ) → b ≡ [] → PartsFrom old so_far → Gathered m so_far new →
    Gathered m old (new ++ leaf_parts b)
leaves_added old so_far new b m none k h = no_bytes (λ (ps : List Part). Gathered m old ps) new b none
    (made_more IsGathered gathered_own (0 + m) m old new (omega arith)
    (made_through IsGathered gathered_own 0 m old so_far new (made_from IsGathered gathered_own old so_far k) h))

-- old parts, and no bytes after them
pub flushed : (old new : List Part) (b : List ℕ) → b ≡ [] → PartsFrom old new → PartsFrom old (new ++ leaf_parts b)
flushed old new b none k = no_bytes (λ (ps : List Part). PartsFrom old ps) new b none k

-- a cord after old parts, and no bytes after that
pub cord_added : (old so_far x longer : List Part) (b : List ℕ) → b ≡ [] → PartsFrom old so_far → PartsFrom (so_far ++ x) longer →
    PartsFrom (old ++ x) (longer ++ leaf_parts b)
cord_added old so_far x longer b none k j = flushed (old ++ x) longer b none (PartsFrom-join old x so_far x longer k (PartsFrom-self x) j)

-- no bytes are no part
pub no_part : (b : List ℕ) → length b ≡ 0 → [] ≡ leaf_parts b
no_part [] h = refl
no_part (x ∷ b) h = absurd (omega (arith, h))

-- bytes that go into leaves one after another: all of these are full, as long as some bytes are left
pub record IsGathering (start longer : List Part) (all rest : ℕ) : Type 0 where
  pub from_there : AreFromOr IsGathered longer start
  pub full : 0 < rest → CAP * length longer + rest ≤ CAP * length start + all
  pub few : CAP * length longer < CAP * length start + all + CAP

-- the text with one leaf more
pub leaf_text : (longer next all : List Cell) (b run rest left : List ℕ) (n : ℕ) → next ≡ longer ++ map known b → b ≡ run →
    run ≡ take n rest → left ≡ drop n rest → longer ++ map known rest ≡ all → next ++ map known left ≡ all
leaf_text longer next all b run rest left n next_is bytes_are prefix back before =
    let whole : run ++ left ≡ rest =
    ap (λ (x : List ℕ). x ++ left) prefix ∙ ap (λ (x : List ℕ). take n rest ++ x) back ∙ take-append-drop n rest in
    ap (λ (x : List Cell). x ++ map known left) (next_is ∙ ap (λ (x : List ℕ). longer ++ map known x) bytes_are)
    ∙ append_assoc longer (map known run) (map known left)
    ∙ ap (λ (x : List Cell). longer ++ x) (sym (map-append known run left) ∙ ap (map known) whole)
    ∙ before

pub gathering_start : (ps : List Part) (all : ℕ) → IsGathering ps ps all all
gathering_start ps all = record {
  from_there = (made_self IsGathered gathered_own ps).from_there;
  full = λ h. omega arith;
  few = omega arith;
}

pub gathering_step : (start longer next : List Part) (b : List ℕ) (all rest run left : ℕ) → run + left ≡ rest → run ≡ min rest CAP →
    0 < rest → length b ≤ CAP → PartsFrom (longer ++ leaf_parts b) next
    → IsGathering start longer all rest → IsGathering start next all left
gathering_step start longer next b all rest run left sum is some fits k h =
    let step : Gathered 1 longer next = leaf_added longer next b fits k in
    let before : CAP * length longer + rest ≤ CAP * length start + all = h.full some in
    record {
      from_there = are_through IsGathered gathered_own next longer start step.from_there h.from_there;
      full = λ more. omega (arith, step.no_more, before, more, sum, is);
      few = omega (arith, step.no_more, before, some);
    }

pub gathering_end : (start longer : List Part) (all rest : ℕ) → IsGathering start longer all rest → (k : ℕ) → all ≤ k * CAP →
    Gathered k start longer
gathering_end start longer all rest h k fits = record { no_more = omega (arith, h.few, fits); from_there = h.from_there }

-- the length of a text and of the buffer after it
pub length_both : (xs : List Cell) (b : List ℕ) → length (xs ++ map known b) ≡ length xs + length b
length_both xs b = length-append xs (map known b) ∙ ap (λ (n : ℕ). length xs + n) (length-map b known)
