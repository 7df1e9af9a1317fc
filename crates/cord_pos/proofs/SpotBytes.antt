-- The part at which a position stands has the byte at its index, and the bytes around it.
use Rattle.cord_pos.proofs.Common.{HasByte, IsOnPart, IsPosition, IsSound, IsWithin, Lengths, Node, None, Option, Path, Some, Span, Spot, Table, ap}
use Rattle.cord_pos.proofs.Common.{arith, false, is_part, len_of, node_of, part_at, places, preorder, refl, span_len, sym, true, ℕ, ◌+◌, ◌-◌, ◌<◌}
use Rattle.cord_pos.proofs.Common.{◌∙◌, ◌≡◌, ◌≤◌}
use Rattle.std.specs.Prelude.{IfSome, is_some, ◌↔◌}
use Rattle.cord_core.specs.Cord.{CordFitsIn}
use Rattle.cord_io.specs.Table.{HasLengths}
use Rattle.cord_node.proofs.TableLemmas.{Fits-reported}
use Rattle.cord_pos.proofs.Bytes.{part_is, part_within, within_byte}
use Rattle.cord_pos.proofs.SamePart.{HasRange, has_range, in_number, number_in}
use Rattle.cord_pos.proofs.Within.{span_back, span_on, within_end}
use Rattle.cord_pos.specs.Position.{IsByteAt}
use Rattle.cord_pos.specs.Spans.{IsAheadOf, IsBehindOf, IsRestAhead, IsRestBehind}
use Rattle.cord_pos.specs.inner.Spans.{HasSpan}

-- what the part at which a valid position stands is of its cord's root
pub record IsSpotPart (c : Option Node) (spot : Spot) : Type 0 where
  pub root : Node
  pub is : c ≡ Some root
  pub sound : IsSound root
  pub part : is_part (node_of spot.part.node) ≡ true
  pub within : IsWithin root spot.index (node_of spot.part.node) (spot.index - spot.part.start)
  pub from : spot.part.start ≤ spot.index
  pub inside : spot.index - spot.part.start < len_of (node_of spot.part.node)
  pub to : spot.part.start + len_of (node_of spot.part.node) ≤ len_of root
  pub end : spot.part.end ≡ spot.part.start + len_of (node_of spot.part.node)
  pub number : (j : ℕ) → j < len_of root → ((spot.part.start ≤ j) × (j < spot.part.end)) ↔ (preorder root spot.index ≡ preorder root j)

-- the part of each valid position is so
pub spot_part : (c : Option Node) (spot : Spot) (path : Path) → IsPosition c (Some spot) path → IsSpotPart c spot
spot_part None spot path on = absurd on.on_spot
spot_part (Some n) spot path on =
    let p : IsOnPart n spot.index spot.part (places path.stops.items) = on.on_spot in
    let r : HasRange (node_of spot.part.node, spot.part.start) n 0 spot.index = rw p.holder (has_range n spot.index 0 p.sound p.inside) in
    let start : spot.part.start ≡ (part_at n 0 spot.index).1 = ap (λ (x : Node × ℕ). x.1) p.holder in
    let node : node_of spot.part.node ≡ (part_at n 0 spot.index).0 = ap (λ (x : Node × ℕ). x.0) p.holder in
    let len : len_of (node_of spot.part.node) ≡ len_of (part_at n 0 spot.index).0 = ap len_of node in
    record {
      root = n;
      is = refl;
      sound = p.sound;
      part = rw node (part_is n spot.index 0);
      within = rw (node, start) (part_within n spot.index 0 spot.index (omega arith) p.sound p.inside);
      from = omega (arith, r.first);
      inside = omega (arith, r.first, r.last);
      to = omega (arith, r.to);
      end = p.end;
      number = λ j k. (
        λ (h : (spot.part.start ≤ j) × (j < spot.part.end)). in_number n spot.index j p.sound p.inside
            (record { from = omega (arith, h.0, start); to = omega (arith, h.1, p.end, start, len) }),
        λ e. let i = number_in n spot.index j p.sound k e in (omega (arith, i.from, start), omega (arith, i.to, p.end, start, len)),
      );
    }

module _ (c : Option Node) (spot : Spot) (path : Path) (on : IsPosition c (Some spot) path) where
  -- over a table with the lengths that were reported, the byte of the part is that of the cord
  pub spot_byte : (lengths : Lengths) (t : Table) (b : ℕ) → HasLengths lengths t → CordFitsIn lengths c →
      HasByte t (node_of spot.part.node) (spot.index - spot.part.start) b → IsByteAt t c (Some spot.index) b
  spot_byte lengths t b reported fits e =
      let h : IsSpotPart c spot = spot_part c spot path on in
      rw h.is (within_byte t h.root spot.index _ _ b h.within (Fits-reported lengths t h.root reported (rw h.is at fits)) h.inside e)

  -- what the part has from the index on is what the cord has there
  pub spot_ahead : {to : ℕ} (r : Option Span) → HasSpan (node_of spot.part.node) (spot.index - spot.part.start) to r →
      IsAheadOf c (Some spot.index) r
  spot_ahead None s = let bad : false ≡ true = s.is in cc
  spot_ahead (Some span) s =
      let h : IsSpotPart c spot = spot_part c spot path on in
      rw h.is (span_on h.root spot.index _ _ span h.within s.span)

  -- and what it has up to the index
  pub spot_behind : (r : Option Span) → HasSpan (node_of spot.part.node) 0 (spot.index - spot.part.start + 1) r →
      IsBehindOf c (Some spot.index) r
  spot_behind None s = let bad : false ≡ true = s.is in cc
  spot_behind (Some span) s =
      let h : IsSpotPart c spot = spot_part c spot path on in
      let long : span_len span ≡ spot.index - spot.part.start + 1 - 0 = s.len in
      record {
        inside = omega (arith, long);
        span = rw h.is (span_back h.root (spot.index + 1) _ _ 0 span (omega (arith, long))
            (within_end h.root spot.index _ _ h.within) s.span);
      }

  -- all that the part has from the index on: the places after it with the index's preorder number
  pub spot_rest_ahead : (r : Option Span) →
      IfSome r (λ s. span_len s ≡ len_of (node_of spot.part.node) - (spot.index - spot.part.start)) → IsRestAhead c (Some spot.index) r
  spot_rest_ahead None long = tt
  spot_rest_ahead (Some span) long =
      let h : IsSpotPart c spot = spot_part c spot path on in
      rw h.is (λ j after inside. (
        λ k. (h.number j inside).0 (omega (arith, h.from, after), omega (arith, k, h.from, h.inside, h.end, long)),
        λ e. omega (arith, h.from, h.inside, h.end, long, ((h.number j inside).1 e).1),
      ))

  -- and all that it has up to the index
  pub spot_rest_behind : (r : Option Span) → IfSome r (λ s. span_len s ≡ spot.index - spot.part.start + 1 - 0) →
      IsRestBehind c (Some spot.index) r
  spot_rest_behind None long = tt
  spot_rest_behind (Some span) long =
      let h : IsSpotPart c spot = spot_part c spot path on in
      rw h.is (λ j before.
      let inside : j < len_of h.root = omega (arith, before, h.from, h.inside, h.to) in (
        λ k. (h.number j inside).0 (omega (arith, k, h.from, long), omega (arith, before, h.from, h.inside, h.end)),
        λ e. omega (arith, h.from, long, ((h.number j inside).1 e).0),
      ))

-- a span of a part is there
pub part_some : (r : Option Span) (n : Node) → (r ≡ None → is_part n ≡ false) → is_part n ≡ true → is_some r ≡ true
part_some None n none part = let e : false ≡ true = sym (none refl) ∙ part in cc
part_some (Some s) n none part = refl
