-- Spans ahead of a position, and sources that hold them.
use Rattle.std.proofs.Common.{ℕ, rules}
use Rattle.std.specs.Prelude.{Option, None, Some}
use Rattle.cord_io.specs.Table.{Lengths}
use Rattle.cord_node.specs.declared.Node.{Node}
use Rattle.cord_core.specs.Cord.{CordFitsIn}
use Rattle.cord_pos.specs.Spans.{SpanFitsIn, IsAheadOf}
use Rattle.cord_pos.specs.declared.span.Span.{Span}

-- what a cord has from an index on lies inside the sources that the cord fits
pub ahead_fits : (c : Option Node) (i : Option ℕ) (s : Span) (lengths : Lengths) → IsAheadOf c i (Some s) → CordFitsIn lengths c →
    SpanFitsIn lengths s
ahead_fits c None s lengths ahead fits = search rules
ahead_fits c (Some i) s lengths ahead fits = ahead.fits lengths fits
