-- A node whose text stands in the text of another one, and spans of parts.
use Rattle.std.specs.Prelude.{◌≡◌, ℕ, ◌+◌, ◌-◌, ◌<◌, ◌≤◌, true, take, drop, Option, is_some, IfSome}
use Rattle.cord_io.specs.Table.{Table, Lengths}
use Rattle.cord_node.specs.declared.Node.{Node}
use Rattle.cord_node.specs.Tree.{len_of, IsSound}
use Rattle.cord_node.specs.Tables.{bytes_over, FitsIn, Fits}
use Rattle.cord_pos.specs.Spans.{is_part, span_len, IsSpanAt}
use Rattle.cord_pos.specs.declared.span.Span.{Span}

-- a place of a node is the place `at` of another one, whose text stands in the node's
pub record IsWithin (n : Node) (place : ℕ) (m : Node) (at : ℕ) : Type 0 where
  pub offset : ℕ
  pub here : place ≡ offset + at
  pub inside : offset + len_of m ≤ len_of n
  pub sound : IsSound m
  pub fits : (lengths : Lengths) → FitsIn lengths n → FitsIn lengths m
  pub text : (t : Table) → Fits t n → (i k : ℕ) → i + k ≤ len_of m →
      take k (drop (offset + i) (bytes_over t n)) ≡ take k (drop i (bytes_over t m))

-- the node is a part, and has a byte at the place
pub record IsPlaceOfPart (n : Node) (place : ℕ) : Type 0 where
  pub part : is_part n ≡ true
  pub sound : IsSound n
  pub inside : place < len_of n

-- it is one, and has bytes from one place on, up to another
pub record IsRangeOfPart (n : Node) (from to : ℕ) : Type 0 where
  pub part : is_part n ≡ true
  pub sound : IsSound n
  pub some : from < to
  pub inside : to ≤ len_of n

-- they are lent
pub record HasSpan (n : Node) (from to : ℕ) (lent : Option Span) : Type 0 where
  pub is : is_some lent ≡ true
  pub span : IfSome lent (IsSpanAt n from)
  pub len : IfSome lent (λ s. span_len s ≡ to - from)
