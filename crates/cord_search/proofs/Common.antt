-- Names that several proofs of this crate cite, passed on from one place. Declares nothing.
pub use Rattle.std.proofs.Common.{Bool, Bor, List, None, Ok, Some, [], ap, append_assoc, arith, drop, eq-eqb, false, get_or, length, length-drop, map}
pub use Rattle.std.proofs.Common.{refl, rules, subst, suc, sym, take, true, w8, zero, ℕ, ⊎_elim, ◌++◌, ◌+◌, ◌-◌, ◌<◌, ◌∙◌, ◌∷◌, ◌≡◌, ◌≤◌}
pub use Rattle.std.proofs.Math.Seq.{take-add}
pub use Rattle.std.proofs.lemmas.Bool.{cases_lt, eqb-true}
pub use Rattle.std.proofs.lemmas.Cmp.{tied_itself}
pub use Rattle.std.proofs.lemmas.List.{drop-drop, get_or-drop, get_or-take, length-take, length-take-le, take-append-drop, take-take, take_all}
pub use Rattle.std.proofs.lemmas.List.{take_min}
pub use Rattle.std.proofs.lemmas.Map.Lookups.{exact_bytes}
pub use Rattle.std.specs.Cmp.Lexicographic.{nat_list_cmp_total, slice_cmp}
pub use Rattle.std.specs.Ordering.{nat_cmp}
pub use Rattle.std.specs.Prelude.{IfOk, IfSome, Option, Result, min, replicate, slice_get}
pub use Rattle.std.specs.declared.cmp.Ordering.{Ordering}
pub use Rattle.std.specs.declared.cmp.Ordering.TheVariants.{Equal, Greater, Less}
pub use Rattle.arrayvec.specs.ArrayVec.{array_vec_len}
pub use Rattle.cord_core.proofs.Searches.{first_is_least}
pub use Rattle.cord_core.specs.Cord.{CordFits, CordFitsIn, bytes_of, text_len}
pub use Rattle.cord_core.specs.Texts.{IsFirst, StandsAt, first}
pub use Rattle.cord_io.specs.Table.{Lengths, Table, length_at}
pub use Rattle.cord_io.specs.declared.TheConstants.{MAX_DEPTH}
pub use Rattle.cord_io.specs.declared.sources.Source.{Ghosts}
pub use Rattle.cord_node.proofs.Ranges.{range_of_range}
pub use Rattle.cord_node.specs.Tree.{depth_of, len_of}
pub use Rattle.cord_node.specs.declared.Node.{Node}
pub use Rattle.cord_pos.proofs.Within.{span_on, within_on}
pub use Rattle.cord_pos.specs.Spans.{IsSpanOf, IsSpanPrefix, span_bytes, span_len}
pub use Rattle.cord_pos.specs.declared.span.Span.{Span}
pub use Rattle.cord_pos.specs.inner.Spans.{IsWithin}
pub use Rattle.cord_search.specs.declared.shared_parts.Stop.{Stop}
pub use Rattle.cord_search.specs.inner.Lasts.{IsLastSoFar}
pub use Rattle.cord_search.specs.inner.Periods.{IsCommon, IsKnown}
pub use Rattle.cord_search.specs.inner.Pieces.{AreSame, HasNot, HoldsText, IsOrderOf, IsPieceOf, IsReadable, IsStanding, StandsNot}
pub use Rattle.cord_search.specs.inner.Searches.{IsAnswer, IsReported, Shows}
pub use Rattle.cord_search.specs.inner.SharedParts.{AreAlike, IsSpot, IsSpotOf, IsStop, IsWay}
pub use Rattle.cord_search.specs.inner.Spans.{IsPartOf, IsSpanUpTo, StandsIn}
pub use Rattle.memchr.specs.Find.{NoneBefore, Nowhere}
