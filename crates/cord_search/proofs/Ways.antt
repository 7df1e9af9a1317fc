-- Ways from the root of a cord to a place of its text.
use Rattle.cord_search.proofs.Common.{AreAlike, IfSome, IsSpanOf, IsSpanUpTo, IsSpot, IsSpotOf, IsStop, IsWithin, List, MAX_DEPTH, Node, Option, Span}
use Rattle.cord_search.proofs.Common.{Stop, [], arith, depth_of, len_of, length, slice_get, span_len, span_on, suc, within_on, zero, ℕ, ◌++◌, ◌+◌}
use Rattle.cord_search.proofs.Common.{◌-◌, ◌∷◌, ◌≡◌, ◌≤◌}
use Rattle.cord_pos.proofs.Within.{span_back, within_end}
use Rattle.cord_pos.specs.Spans.{IsSpanAt}
use Rattle.cord_search.proofs.Sharing.{spots_alike}
use Rattle.cord_search.specs.declared.shared_parts.Spot.{Spot}
use Rattle.cord_search.specs.inner.SharedParts.{AreOneSpot}

-- where the same text stands, from another place of it
moved : (n : Node) (place : ℕ) (m : Node) (at i j : ℕ) → place + j ≡ i + at → IsWithin n place m at → IsWithin n i m j
moved n place m at i j e w = record {
  offset = w.offset;
  here = omega (arith, w.here, e);
  inside = w.inside;
  sound = w.sound;
  fits = w.fits;
  text = w.text;
}

module _ {c : Option Node} {at : ℕ} {s : Spot} (h : IsSpotOf c at s) where
  -- a node that holds the place is kept
  pub stop_kept : (k : ℕ) (stop : Stop) → stop.node.now ≡ s.node.now → stop.start ≡ at - s.place → k + depth_of s.node.now ≤ MAX_DEPTH →
      IsStop c k stop
  stop_kept k stop node start depth = record {
    root = h.root;
    is = h.is;
    within = rw (node, start) (moved h.root at s.node.now s.place (at - s.place) 0 (omega (arith, h.within.here)) h.within);
    depth = rw node depth;
  }

  -- the side of a node that holds it
  pub side_at : {side : Spot} → IsWithin s.node.now s.place side.node.now side.place → IsSpot side → IsSpotOf c at side
  side_at {side} w spot = record {
    root = h.root;
    is = h.is;
    within = within_on h.root at s.node.now s.place side.node.now side.place h.within w;
    spot = spot;
  }

  -- what a part has is what the cord has
  pub span_of : {x : Span} → IsSpanAt s.node.now s.place x → IsSpanOf c at x
  span_of {x} e = rw h.is (span_on h.root at s.node.now s.place x h.within e)

  -- up to a place
  pub span_to : {x : Span} → span_len x ≡ s.place + 1 → IsSpanAt s.node.now 0 x → IsSpanUpTo c (at + 1) x
  span_to {x} len e = record {
    inside = omega (arith, len, h.within.here);
    span = rw h.is (span_back h.root (at + 1) s.node.now (s.place + 1) 0 x (omega (arith, len))
        (within_end h.root at s.node.now s.place h.within) e);
  }

-- one place of two nodes that have one text
pub stops_alike : {c d : Option Node} {i j : ℕ} {s o : Spot} (k : ℕ) → IsSpotOf c i s → IsSpotOf d j o → AreOneSpot s o →
    s.place + k ≤ len_of s.node.now → AreAlike c i d j k
stops_alike {i = i} {j = j} {s = s} {o = o} k h g one inside = rw (h.is, g.is) (spots_alike h.root i s.node.now s.place g.root j o.node.now
    o.place k h.within g.within one.0 one.1 one.2 inside)

-- what holds of each item by its place holds of one item more
pub all_push : {A : Type 0} (P : ℕ → A → Type 0) (xs : List A) (x : A) → ((k : ℕ) → IfSome (slice_get xs k) (P k)) → P (length xs) x →
    (k : ℕ) → IfSome (slice_get (xs ++ x ∷ []) k) (P k)
all_push P [] x h p zero = p
all_push P [] x h p (suc k) = tt
all_push P (y ∷ ys) x h p zero = h zero
all_push P (y ∷ ys) x h p (suc k) = all_push (λ j. P (suc j)) ys x (λ j. h (suc j)) p k
