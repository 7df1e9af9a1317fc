-- Spans: texts that lie in one part of a cord.
use Rattle.std.specs.Prelude.{◌≡◌, ◌↔◌, ℕ, ◌+◌, ◌-◌, ◌<◌, ◌≤◌, List, length, take, drop, replicate, Option, Some, None, ⊤}
use Rattle.std.specs.Prelude.{Bool, true, false, nat_lt, if◌then◌else◌}
use Rattle.cord_io.specs.Table.{Table, Lengths, length_at}
use Rattle.cord_io.specs.declared.TheConstants.{MAX_LEN}
use Rattle.cord_node.specs.declared.Node.{Node}
use Rattle.cord_node.specs.declared.Node.TheVariants.{Leaf, Run, Func, Cat'}
use Rattle.cord_node.specs.Tree.{len_of}
use Rattle.cord_core.specs.Cord.{text_len, bytes_of, CordFitsIn, CordFits}
use Rattle.cord_pos.specs.Position.{IsOnePart}
use Rattle.cord_pos.specs.declared.span.Span.{Span}
use Rattle.cord_pos.specs.declared.span.Span.TheVariants.{Bytes, Run, Func}

-- its length
abbrev pub span_len : Span → ℕ
span_len (Bytes bytes) = length bytes.now
span_len (Run byte len) = len
span_len (Func id start len) = len

-- its text over a table
abbrev pub span_bytes : Table → Span → List ℕ
span_bytes t (Bytes bytes) = bytes.now
span_bytes t (Run byte len) = replicate len byte
span_bytes t (Func id start len) = take len (drop start (t id.0))

-- a range of a source lies inside a source of this length
abbrev pub SpanFitsIn : Lengths → Span → Type 0
SpanFitsIn lengths (Bytes bytes) = ⊤
SpanFitsIn lengths (Run byte len) = ⊤
SpanFitsIn lengths (Func id start len) = (start + len ≤ length_at lengths id.0) × (start + len ≤ MAX_LEN)

-- it isn't empty, and is what the cord's text has from the place on
pub record IsSpanOf (c : Option Node) (place : ℕ) (s : Span) : Type 0 where
  pub some : 0 < span_len s
  pub inside : place + span_len s ≤ text_len c
  pub fits : (lengths : Lengths) → CordFitsIn lengths c → SpanFitsIn lengths s
  pub text : (t : Table) → CordFits t c → span_bytes t s ≡ take (span_len s) (drop place (bytes_of t c))

-- the same of a node
abbrev pub IsSpanAt : Node → ℕ → Span → Type 0
IsSpanAt n place s = IsSpanOf (Some n) place s

-- the first n bytes of a span
pub record IsSpanPrefix (s : Span) (n : ℕ) (prefix : Span) : Type 0 where
  pub len : span_len prefix ≡ n
  pub fits : (lengths : Lengths) → SpanFitsIn lengths s → SpanFitsIn lengths prefix
  pub text : (t : Table) → span_bytes t prefix ≡ take n (span_bytes t s)

-- a span that begins at the index, and none where there is no index
abbrev pub IsAheadOf : Option Node → Option ℕ → Option Span → Type 0
IsAheadOf c None s = s ≡ None
IsAheadOf c (Some i) None = ⊥
IsAheadOf c (Some i) (Some s) = IsSpanOf c i s

-- a span of which the byte at the index is the last one
pub record EndsAt (c : Option Node) (i : ℕ) (s : Span) : Type 0 where
  pub inside : span_len s ≤ i + 1
  pub span : IsSpanOf c (i + 1 - span_len s) s

-- the same, and none where there is no index
abbrev pub IsBehindOf : Option Node → Option ℕ → Option Span → Type 0
IsBehindOf c None s = s ≡ None
IsBehindOf c (Some i) None = ⊥
IsBehindOf c (Some i) (Some s) = EndsAt c i s

-- a place at the index or after it is in the span that begins there just where it lies in the part that holds the index
abbrev pub IsRestAhead : Option Node → Option ℕ → Option Span → Type 0
IsRestAhead c (Some i) (Some s) = (j : ℕ) → i ≤ j → j < text_len c → (j < i + span_len s) ↔ IsOnePart c (Some i) (Some j)
IsRestAhead _ _ _ = ⊤

-- a place at the index or before it is in the span that ends there just where it lies in the part that holds the index
abbrev pub IsRestBehind : Option Node → Option ℕ → Option Span → Type 0
IsRestBehind c (Some i) (Some s) = (j : ℕ) → j ≤ i → (i < j + span_len s) ↔ IsOnePart c (Some i) (Some j)
IsRestBehind _ _ _ = ⊤

-- the node is no concatenation
abbrev pub is_part : Node → Bool
is_part (Leaf len bytes start mark) = true
is_part (Run byte len) = true
is_part (Func id len start) = true
is_part (Cat' mark depth len p left q right count) = false

-- the side of a node that holds its index `i`, and where the side begins in the node's text: none of a part
abbrev pub side_at : Node → ℕ → Option (Node × ℕ)
side_at (Leaf len bytes s mark) i = None
side_at (Run byte len) i = None
side_at (Func id len s) i = None
side_at (Cat' mark depth len p left q right count) i = if nat_lt i (len_of left) then Some (left, 0) else Some (right, len_of left)
