-- On the way back over lines: which names they read before they assign them.
use Rattle.std.specs.Prelude.{◌≡◌, ◌⊎◌, ◌+◌, ◌<◌, ◌≤◌, ◌==◌, ◌&&◌, ◌||◌, ◌∷◌, ◌*◌, ◌%◌, ◌^◌, if◌then◌else◌}
use Rattle.cord_plan.proofs.Common.{ℕ, Bool, true, false, List, [], length, set, drop, Option, Some, None, inl, inr, refl, sym, ap, ◌∙◌}
use Rattle.cord_plan.proofs.Common.{subst, arith, slice_get, is_some, replicate, bit_at, w16, or_zero_l, bit_or, and-false, and-true}
use Rattle.cord_plan.proofs.Common.{or-false, eq-or-lt_of_le, eqb_tells, bit_at-zero, bit_at_set_same, bit_at_set_other, drop_more}
use Rattle.cord_plan.proofs.Common.{length-replicate, get_or_from_slice_get, slice_get_within, Statement, assigns, read_by, reads}
use Rattle.cord_plan.proofs.Common.{target_of, AreNextReads, AreBits, AreReportedFrom, IsLineLater, flow, later_in, bit, names_of}
use Rattle.cord_plan.proofs.Common.{number_in, PutsPlaces, entry_at, entry_of, LineLater, Numbering}
use Rattle.cord_plan.proofs.Choices.{simple_reads}
use Rattle.cord_plan.proofs.Recents.{none_noted, set_apart, set_there}
use Rattle.cord_plan.proofs.Words.{bit_or_is, bit_zero_is}

-- after the last line
pub none_read_next : (t : Numbering) → AreNextReads [] t (replicate (length (names_of t)) None)
none_read_next t = record {
  places_for = length-replicate (length (names_of t)) None;
  reported = λ x. ap is_some (none_noted t (length (names_of t)) x);
}

-- what is noted for a name after one line more
after_line : (r a : Bool) (p : ℕ) (e : Option ℕ) → is_some (if r then Some p else (if a then None else e)) ≡ flow r (is_some e) a
after_line true a p e = refl
after_line false true p e = sym (and-false (is_some e))
after_line false false p e = sym (and-true (is_some e))

pub line_more : (t : Numbering) (l : Statement) (ls : List Statement) (p : ℕ) (old now new : List (Option ℕ)) → length new ≡ length old →
    PutsPlaces t (λ x. assigns l x) None old now → PutsPlaces t (λ x. reads l x) (Some p) now new → AreNextReads ls t old → AreNextReads (l ∷ ls) t new
line_more t l ls p old now new same clears notes next_reads = record {
  places_for = same ∙ next_reads.places_for;
  reported = λ x. ap is_some (notes x ∙ ap (λ (o : Option ℕ). if reads l x then Some p else o) (clears x))
      ∙ (after_line (reads l x) (assigns l x) p (entry_of t old x)
      ∙ ap (λ (later : Bool). flow (reads l x) later (assigns l x)) (next_reads.reported x));
}

-- the bit of an operand
pub one_bit : (k i : ℕ) → k < 16 → bit (1 * 2 ^ k % 65536) i ≡ (i == k)
one_bit k i within = elim (eqb_tells i k) [
  | inl w ↦
      let there : bit_at (1 * 2 ^ k % 2 ^ 16) k ≡ 1 = rw (or_zero_l (1 * 2 ^ k % 2 ^ 16)) at (bit_at_set_same w16 0 k within) in
      rw (w.0, w.1, there) refl
  | inr w ↦
      let there : bit_at (1 * 2 ^ k % 2 ^ 16) i ≡ 0 =
      rw (or_zero_l (1 * 2 ^ k % 2 ^ 16), bit_at-zero i) at (bit_at_set_other w16 0 k within i w.1) in
      rw (w.0, there) refl
]

-- the bits of the names before a place, where those after it are unset
pub record BitsTo (holds : List ℕ → Bool) (xs : List (List ℕ)) (k w : ℕ) : Type 0 where
  pub before : (i : ℕ) (x : List ℕ) → i < k → i < 16 → slice_get xs i ≡ Some x → bit w i ≡ holds x
  pub suffix : (i : ℕ) → k ≤ i → bit w i ≡ false

pub bits_start : (holds : List ℕ → Bool) (xs : List (List ℕ)) → BitsTo holds xs 0 0
bits_start holds xs = record { before = λ i x lt within e. absurd (omega (arith, lt)); suffix = λ i le. bit_zero_is i }

pub bits_more : (holds : List ℕ → Bool) (xs : List (List ℕ)) (k w v : ℕ) (x : List ℕ) (a : Bool) → slice_get xs k ≡ Some x → a ≡ holds x →
    ((i : ℕ) → bit v i ≡ (a && (i == k))) → BitsTo holds xs k w → BitsTo holds xs (k + 1) (bit_or w v)
bits_more holds xs k w v x a there is one bits = record {
  before = λ i y lt within e. elim (eqb_tells i k) [
    | inl q ↦
        (let mine : slice_get xs k ≡ Some y = ap (λ (n : ℕ). slice_get xs n) (sym q.1) ∙ e in
        let same : x ≡ y = cc in
        let unset : bit w i ≡ false = bits.suffix i (omega (arith, q.1)) in
        bit_or_is w v i ∙ rw (unset, one i, q.0) (and-true a ∙ (is ∙ ap holds same)))
    | inr q ↦
        (let early : i < k = let differ = q.1 in omega (arith, lt, differ) in
        bit_or_is w v i
        ∙ rw (one i, q.0) (ap (λ (b : Bool). bit w i || b) (and-false a) ∙ (or-false (bit w i) ∙ bits.before i y early within e)))
  ];
  suffix = λ i le. elim (eqb_tells i k) [
    | inl q ↦ absurd (let same = q.1 in omega (arith, le, same))
    | inr q ↦ bit_or_is w v i ∙ rw (one i, q.0, bits.suffix i (omega (arith, le))) (and-false a)
  ];
}

-- what is asked of a line, by what is noted after it
pub line_is : (t : Numbering) (places : List (Option ℕ)) (ls : List Statement) (l : Statement) (line : LineLater) (target : Option ℕ) →
    AreNextReads ls t places → line.target ≡ is_some (entry_at places target) → target ≡ number_in t (target_of l) →
    AreBits (λ x. is_some (entry_of t places x)) (read_by l) line.operands →
    IsLineLater l (λ x. later_in ls x) line
line_is t places ls l line target next_reads reported number bits = record {
  target = λ x e. reported ∙ (ap (λ (o : Option ℕ). is_some (entry_at places o)) (number ∙ ap (λ (o : Option (List ℕ)). number_in t o) e)
      ∙ next_reads.reported x);
  operands = λ xs e i x lt there. bits i x lt (ap (λ (ys : List (List ℕ)). slice_get ys i) (simple_reads l xs e) ∙ there) ∙ next_reads.reported
      x;
}

-- one line more is reported
pub reported_more : (s : List Statement) (p q : ℕ) (lines : List LineLater) (line : LineLater) (l : Statement) → q ≡ p + 1 → p < length
    lines →
    slice_get s p ≡ Some l → IsLineLater l (λ x. later_in (drop q s) x) line → AreReportedFrom s q lines → AreReportedFrom s p
    (set lines p line)
reported_more s p q lines line l next within there reported before k m le e = by_place (eq-or-lt_of_le le)
  where
    here : IsLineLater l (λ x. later_in (drop (p + 1) s) x) line
    here = subst (λ (n : ℕ). IsLineLater l (λ x. later_in (drop n s) x) line) next reported

    by_place : (p ≡ k) ⊎ (p < k) → (found : LineLater) × (slice_get (set lines p line) k ≡ Some found)
        × IsLineLater m (λ x. later_in (drop (k + 1) s) x) found
    by_place (inl same) =
        let mine : slice_get s p ≡ Some m = ap (λ (n : ℕ). slice_get s n) same ∙ e in
        let is : l ≡ m = cc in (
          line,
          ap (λ (n : ℕ). slice_get (set lines p line) n) (sym same) ∙ set_there lines p line within,
          subst (λ (n : ℕ). IsLineLater m (λ x. later_in (drop (n + 1) s) x) line) same
              (subst (λ (j : Statement). IsLineLater j (λ x. later_in (drop (p + 1) s) x) line) is here),
        )
    by_place (inr less) =
        let found : (found : LineLater) × (slice_get lines k ≡ Some found) × IsLineLater m (λ x. later_in (drop (k + 1) s) x) found =
        before k m (omega (arith, less, next)) e in
        (found.0, set_apart lines p k line (λ same. omega (arith, less, same)) ∙ found.1, found.2)

pub from_place : (s : List Statement) (p q : ℕ) (l : Statement) → q ≡ p + 1 → slice_get s p ≡ Some l → l ∷ drop q s ≡ drop p s
from_place s p q l next there = rw next (sym (drop_more s p l (slice_get_within s p l there)
    ∙ ap (λ (m : Statement). m ∷ drop (p + 1) s) (get_or_from_slice_get s p l l there)))
