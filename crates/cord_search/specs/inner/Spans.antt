-- What pieces of spans and two spans have in common, and where a text can't stand.
use Rattle.std.specs.Prelude.{◌≡◌, ◌≢◌, ℕ, ◌+◌, ◌-◌, ◌<◌, ◌≤◌, List, length, take, drop, slice_get, slice_index, Bool, false, not, ◌==◌}
use Rattle.std.specs.Prelude.{Option, Some, IsSome}
use Rattle.std.specs.Ordering.{nat_cmp}
use Rattle.std.specs.Cmp.Lexicographic.{slice_cmp}
use Rattle.std.specs.declared.cmp.Ordering.{Ordering}
use Rattle.cord_io.specs.Table.{Table}
use Rattle.cord_node.specs.declared.Node.{Node}
use Rattle.cord_pos.specs.Position.{Standing}
use Rattle.cord_pos.specs.Spans.{span_len, span_bytes, IsSpanOf, IsSpanPrefix}
use Rattle.cord_pos.specs.declared.span.Span.{Span}
use Rattle.cord_pos.specs.declared.span.Span.TheVariants.{Run}

-- the bytes stand in the span's text from the place on
abbrev pub IsPartOf : Table → Span → ℕ → List ℕ → Type 0
IsPartOf t s place xs = xs ≡ take (length xs) (drop place (span_bytes t s))

-- some bytes, and no more than the span has
abbrev pub IsSomeOf : Span → List ℕ → Type 0
IsSomeOf s xs = (0 < length xs) × (length xs ≤ span_len s)

-- a span that isn't empty, of the first bytes of another
pub record IsBlockOf (s block : Span) : Type 0 where
  pub some : 0 < span_len block
  pub few : span_len block ≤ span_len s
  pub prefix : IsSpanPrefix s (span_len block) block

-- it is what the cord's text has up to the place
pub record IsSpanUpTo (c : Option Node) (end : ℕ) (s : Span) : Type 0 where
  pub inside : span_len s ≤ end
  pub span : IsSpanOf c (end - span_len s) s

-- the position stands at a place of this cord
pub record StandsIn (c : Option Node) (position : Standing) : Type 0 where
  pub cord : position.cord ≡ c
  pub valid : IsSome position.index

-- the order of the texts of two spans
abbrev pub IsOrderOfSpans : Table → Span → Span → Ordering → Type 0
IsOrderOfSpans t s other r = r ≡ slice_cmp nat_cmp (span_bytes t s) (span_bytes t other)

-- its text has this byte nowhere
abbrev pub IsWithout : Span → ℕ → Type 0
IsWithout s c = (t : Table) → (q : ℕ) → slice_get (span_bytes t s) q ≢ Some c

-- so it is, and so long
pub record IsRunWithout (s : Span) (c n : ℕ) : Type 0 where
  pub len : n ≡ span_len s
  pub without : IsWithout s c

-- it is a run of another byte
abbrev pub is_other_run : Span → ℕ → Bool
is_other_run (Run byte len) c = not (byte == c)
is_other_run _ c = false

-- the two begin with the same bytes, up to the end of the shorter one
abbrev pub BeginAlike : Span → Span → Type 0
BeginAlike s other = (t : Table) → (n : ℕ) → n ≤ span_len s → n ≤ span_len other →
    take n (span_bytes t s) ≡ take n (span_bytes t other)

-- a text that begins with these bytes has another byte somewhere than the span, if it stands at this place of it
pub record DoesNotFit (t : Table) (s : Span) (prefix : List ℕ) (place : ℕ) : Type 0 where
  pub at : ℕ
  pub inside : at < length prefix
  pub within : place + at < span_len s
  pub differs : slice_index (span_bytes t s) (place + at) ≢ slice_index prefix at

-- no text that begins with these bytes stands at one of the first n places of the span
abbrev pub IsMisfit : Span → List ℕ → ℕ → Type 0
IsMisfit s prefix n = (t : Table) → (place : ℕ) → place < n → DoesNotFit t s prefix place
