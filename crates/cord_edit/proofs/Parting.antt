-- The parts of a text with a gap.
use Rattle.std.proofs.Common.{◌≡◌, ℕ, zero, suc, ◌+◌, ◌-◌, ◌*◌, ◌≤◌, List, [], ◌∷◌, ◌++◌, length, map, take, drop, length-append, append-nil, ap, ◌∙◌, sym, subst, arith}
use Rattle.std.specs.Prelude.{Option}
use Rattle.cord_node.specs.declared.Node.{Node}
use Rattle.cord_node.specs.Tree.{Cell, known}
use Rattle.cord_node.specs.PartsFrom.{Part, AreFrom, PartsFrom}
use Rattle.cord_node.specs.Touched.{AtMostOneMore}
use Rattle.cord_node.proofs.PartsFromLemmas.{PartsFrom-self}
use Rattle.cord_raw.specs.declared.buffer.TheConstants.RawBuf.{CAP}
use Rattle.cord_core.specs.Cord.{text, text_len, parts_of}
use Rattle.cord_ec.specs.Gathered.{leaf_parts, Growth, IsGathered, AreFromOr, Gathered}
use Rattle.cord_edit.specs.declared.gap.Gap.{Gap}
use Rattle.cord_edit.specs.inner.Gaps.{gap_bytes}
use Rattle.cord_edit.specs.inner.Splices.{growth_of, leaf_growth, IsSpliced}
use Rattle.cord_ec.proofs.Leaves.{gathered_own, leaf_begun}
use Rattle.cord_ec.proofs.MadeLemmas.{made_from, are_from, are_self, are_left, are_both, made_self, made_more, made_through, made_after, made_beside}

leaf_small : (b : List ℕ) → length b ≤ CAP → AreFromOr IsGathered (leaf_parts b) []
leaf_small [] h = tt
leaf_small (x ∷ b) h = (h, tt)

-- a leaf that other bytes come in front of
leaf_longer : (a b : List ℕ) (k : ℕ) → length b ≤ k * CAP → length (leaf_parts (b ++ a)) ≤ length (leaf_parts a) + k
leaf_longer a [] k h = omega arith
leaf_longer [] (x ∷ b) k h = omega (arith, h)
leaf_longer (y ∷ a) (x ∷ b) k h = omega arith

leaf_shorter : (a : List ℕ) (n : ℕ) → length (leaf_parts (take n a)) ≤ length (leaf_parts a)
leaf_shorter [] zero = omega arith
leaf_shorter [] (suc n) = omega arith
leaf_shorter (x ∷ a) zero = omega arith
leaf_shorter (x ∷ a) (suc n) = omega arith

-- what was there, where more is allowed
pub as_before : (n : ℕ) (ps : List Part) → Gathered n ps ps
as_before n ps = made_more IsGathered gathered_own 0 n ps ps (omega arith) (made_self IsGathered gathered_own ps)

pub more : (m n : ℕ) (old new : List Part) → m ≤ n → Gathered m old new → Gathered n old new
more m n old new h g = made_more IsGathered gathered_own m n old new h g

-- the gap's bytes with others in front of them, and the first of them
pub prefix_grown : (ps : List Part) (a b : List ℕ) (k : ℕ) → length (b ++ a) ≤ CAP → length b ≤ k * CAP →
    Gathered k (ps ++ leaf_parts a) (ps ++ leaf_parts (b ++ a))
prefix_grown ps a b k fits h = made_after IsGathered gathered_own k ps (leaf_parts a) (leaf_parts (b ++ a)) (leaf_longer a b k h)
    (leaf_small (b ++ a) fits)

pub tail_cut : (ps : List Part) (a : List ℕ) (n : ℕ) → length (take n a) ≤ CAP →
    Gathered 1 (ps ++ leaf_parts a) (ps ++ leaf_parts (take n a))
tail_cut ps a n fits = made_after IsGathered gathered_own 1 ps (leaf_parts a) (leaf_parts (take n a)) (omega (arith, leaf_shorter a n))
    (leaf_small (take n a) fits)

-- a cord with a text in the place of a range
pub spliced : (old middle new : List Part) → AtMostOneMore old middle new → AreFrom new (old ++ middle) → Gathered 1 (old ++ middle) new
spliced old middle new few from = record {
  no_more = omega (arith, few, length-append old middle);
  from_there = are_from IsGathered gathered_own new (old ++ middle) from;
}

-- leaves beside what was there
beside : (old leaves : List Part) (k : ℕ) → Gathered k [] leaves → Gathered k old (old ++ leaves)
beside old leaves k g = record {
  no_more = omega (arith, length-append old leaves, g.no_more);
  from_there = are_both IsGathered gathered_own old leaves old (are_self IsGathered gathered_own old)
      (are_left IsGathered gathered_own leaves [] old g.from_there);
}

-- leaves that were put into a cord
pub leaves_put : (old leaves new : List Part) (k : ℕ) → Gathered k [] leaves → Gathered 1 (old ++ leaves) new → Gathered (1 + k) old new
leaves_put old leaves new k g put = more (k + 1) (1 + k) old new (omega arith)
    (made_through IsGathered gathered_own k 1 old (old ++ leaves) new (beside old leaves k g) put)

-- no bytes in the gap
pub no_gap : (n : ℕ) (old ps : List Part) (b : List ℕ) → b ≡ [] → Gathered n old ps → Gathered n old (ps ++ leaf_parts b)
no_gap n old ps b e g = subst (λ (x : List ℕ). Gathered n old (ps ++ leaf_parts x)) (sym e)
    (subst (λ (qs : List Part). Gathered n old qs) (sym (append-nil ps)) g)

-- a gap that begins with these bytes
pub gap_begun : (k : ℕ) (old ps : List Part) (b : List ℕ) → length b ≤ CAP → Gathered 1 old ps → Gathered (2 + k) old (ps ++ leaf_parts b)
gap_begun k old ps b fits g = more 2 (2 + k) old (ps ++ leaf_parts b) (omega arith)
    (made_through IsGathered gathered_own 1 1 old ps (ps ++ leaf_parts b) g (leaf_begun ps ps b fits (PartsFrom-self ps)))

-- one step after another
pub steps : (m n : ℕ) (a b c : List Part) → Gathered m a b → Gathered n b c → Gathered (m + n) a c
steps m n a b c g h = made_through IsGathered gathered_own m n a b c g h

-- a text that is put in after the gap's bytes were
pub spliced_after : (old ps middle new : List Part) → Gathered 1 old ps → Gathered 1 (ps ++ middle) new → Gathered 2 (old ++ middle) new
spliced_after old ps middle new g put = made_through IsGathered gathered_own 1 1 (old ++ middle) (ps ++ middle) new
    (made_beside IsGathered gathered_own 1 old ps middle g) put

-- nothing but the gap's bytes was put in, and a text beside them is still to come
pub not_yet : (old ps middle : List Part) (b : List ℕ) → b ≡ [] → Gathered 1 old ps → Gathered 2 (old ++ middle) (ps ++ leaf_parts b)
not_yet old ps middle b e g = no_gap 2 (old ++ middle) ps b e (record {
  no_more = omega (arith, g.no_more, length-append old middle);
  from_there = are_left IsGathered gathered_own ps old middle g.from_there;
})

-- nothing was put in
pub untouched : (n : ℕ) (ps middle : List Part) → Gathered n (ps ++ middle) ps
untouched n ps middle = record {
  no_more = omega (arith, length-append ps middle);
  from_there = are_left IsGathered gathered_own ps ps middle (are_self IsGathered gathered_own ps);
}

-- what comes from leaves that were gathered
pub gathered_then_from : (k : ℕ) (old ps new : List Part) → Gathered k old ps → PartsFrom ps new → Gathered k old new
gathered_then_from k old ps new g h = more (k + 0) k old new (omega arith)
    (made_through IsGathered gathered_own k 0 old ps new g (made_from IsGathered gathered_own ps new h))

-- the same parts
pub unchanged_parts : (n : ℕ) (all old new : List Part) → old ≡ all → new ≡ old → Gathered n all new
unchanged_parts n all old new e f = subst (λ (ps : List Part). Gathered n ps new) e
    (subst (λ (ps : List Part). Gathered n old ps) (sym f) (as_before n old))

-- the gap's bytes weren't put in
pub gap_kept : {old new : Growth} {g h : Gap} → new ≡ old → h ≡ g → new.parts ++ leaf_parts (gap_bytes h) ≡ old.parts ++ leaf_parts (gap_bytes g)
gap_kept {old} {h} cords gap = ap (λ (n : Growth). n.parts ++ leaf_parts (gap_bytes h)) cords ∙ ap (λ (k : Gap). old.parts ++ leaf_parts (gap_bytes k)) gap

-- parts of a growth that is seen as another one, and with some beside them
pub as_seen : {n : ℕ} {old all : Growth} {new : List Part} → old ≡ all → Gathered n old.parts new → Gathered n all.parts new
as_seen {n} {new} e g = subst (λ (x : Growth). Gathered n x.parts new) e g

pub as_seen_with : {n : ℕ} {old all : Growth} {new : List Part} (middle : List Part) → old ≡ all → Gathered n (old.parts ++ middle) new →
    Gathered n (all.parts ++ middle) new
as_seen_with {n} {new} middle e g = subst (λ (x : Growth). Gathered n (x.parts ++ middle) new) e g

-- a leaf that was put in is its bytes
pub leaf_spliced : {from until : ℕ} {old new : Growth} (leaf : Option Node) (b : List ℕ) → text leaf ≡ map known b → parts_of leaf ≡ leaf_parts b →
    text_len leaf ≡ length b → IsSpliced from until (growth_of leaf) (text_len leaf) old new → IsSpliced from until (leaf_growth b) (length b) old new
leaf_spliced {from} {until} {old} {new} leaf b t p n s = record {
  text = s.text ∙ ap (λ (xs : List Cell). take from old.text ++ xs ++ drop until old.text) t;
  len = s.len ∙ ap (λ (k : ℕ). from + k + (length old.text - until)) n;
  gathered = subst (λ (ps : List Part). Gathered 1 (old.parts ++ ps) new.parts) p s.gathered;
}
