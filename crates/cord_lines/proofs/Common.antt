-- Names that several proofs of this crate cite, passed on from one place. Declares nothing.
pub use Rattle.std.proofs.Common.{Bool, List, Some, [], ap, append_assoc, arith, cond, drop, false, get_or, length, length-append}
pub use Rattle.std.proofs.Common.{length-drop, length-take, min, refl, subst, suc, sym, take, true, zero, ℕ, ◌*◌, ◌++◌, ◌+◌, ◌-◌, ◌/◌, ◌<◌}
pub use Rattle.std.proofs.Common.{◌^◌, ◌∙◌, ◌∷◌, ◌≡◌, ◌≤◌}
pub use Rattle.std.proofs.Math.ListN.{set}
pub use Rattle.std.proofs.Math.Seq.{drop-append_seam, take-add, take-append_seam}
pub use Rattle.std.proofs.lemmas.Bool.Decides.{nat_tests}
pub use Rattle.std.proofs.lemmas.List.{append-nil, drop-drop, take-append-drop, take-append-le, take-take, take_all}
pub use Rattle.std.proofs.lemmas.List.Folds.{sum_by-replicate}
pub use Rattle.std.proofs.lemmas.List.Sums.{sum_by-append, sum_by-cons, sum_by-take-le}
pub use Rattle.std.proofs.lemmas.Result.{on_ok_weaker}
pub use Rattle.std.specs.Prelude.{if◌then◌else◌, slice_get, ◌==◌}
pub use Rattle.cord.specs.Chunks.{chunk_bytes}
pub use Rattle.cord.specs.Lines.{lines, lines_as}
pub use Rattle.cord.specs.declared.chunks.Chunk.{Chunk}
pub use Rattle.cord_io.specs.declared.TheConstants.{MAX_LEN}
pub use Rattle.cord_lines.specs.Counts.{AreFew, AreNarrow, begins_char, chars_in, counts_of, ends_in, is_end, no_counts, plus}
pub use Rattle.cord_lines.specs.Index.{Indexed}
pub use Rattle.cord_lines.specs.Lines.{IsEditOf, after_ends, is_inside_line, lacks_end}
pub use Rattle.cord_lines.specs.declared.blocks.Block.{Block}
pub use Rattle.cord_lines.specs.declared.counting.Counts.{Counts}
pub use Rattle.cord_lines.specs.inner.Blocks.{AreSummed, AreSumsOf, CanExchange, amount, block_counts, exchanged, own, total, total_by}
pub use Rattle.cord_lines.specs.inner.Blocks.{without}
pub use Rattle.cord_lines.specs.inner.Cuts.{AreBlocksOf, AreModest, AreOfSomeText, IsMark, IsModest}
pub use Rattle.cord_lines.specs.inner.Edits.{FollowEdit, replaced}
pub use Rattle.cord_lines.specs.inner.Reading.{IsAhead, IsCounted}
