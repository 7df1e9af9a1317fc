-- Names that several proofs of this crate cite, passed on from one place. Declares nothing.
pub use Rattle.std.proofs.Common.{List, None, Some, [], ap, append_assoc, arith, drop, false, inl, inr, length, min, refl, rules, suc, sym, take}
pub use Rattle.std.proofs.Common.{true, zero, ℕ, ◌++◌, ◌+◌, ◌-◌, ◌<◌, ◌^◌, ◌∙◌, ◌∷◌, ◌≡◌, ◌≤◌}
pub use Rattle.std.proofs.lemmas.Bool.{lt-ltb}
pub use Rattle.std.proofs.lemmas.Bool.Decides.{nat_tests}
pub use Rattle.std.proofs.lemmas.List.{length-map}
pub use Rattle.std.specs.Prelude.{Option}
pub use Rattle.std.specs.declared.rc.Rc.{Rc}
pub use Rattle.arrayvec.specs.ArrayVec.{array_vec_len}
pub use Rattle.cord_core.specs.Cord.{IsCord, text_len}
pub use Rattle.cord_io.specs.Table.{Lengths, Table}
pub use Rattle.cord_io.specs.declared.TheConstants.{MAX_DEPTH, MAX_LEN}
pub use Rattle.cord_node.proofs.TreeLemmas.{len_limit, len_positive}
pub use Rattle.cord_node.specs.Occurrences.{level, preorder, shared_level, size}
pub use Rattle.cord_node.specs.PartsFrom.{Part}
pub use Rattle.cord_node.specs.Tables.{bytes_over}
pub use Rattle.cord_node.specs.Tree.{IsSound, depth_of, len_of}
pub use Rattle.cord_node.specs.declared.Node.{Node}
pub use Rattle.cord_node.specs.declared.Node.TheVariants.{Cat', Func, Leaf, Run}
pub use Rattle.cord_pos.specs.Position.{number_at}
pub use Rattle.cord_pos.specs.Spans.{is_part, side_at, span_len}
pub use Rattle.cord_pos.specs.declared.Spot.{Spot}
pub use Rattle.cord_pos.specs.declared.path.Path.{Path}
pub use Rattle.cord_pos.specs.declared.span.Span.{Span}
pub use Rattle.cord_pos.specs.inner.Invariant.{IsOnPart, IsPosition}
pub use Rattle.cord_pos.specs.inner.Parts.{HasByte}
pub use Rattle.cord_pos.specs.inner.Path.{IsClimb, Place, below, node_of, part_at, place_of, places, way}
pub use Rattle.cord_pos.specs.inner.Spans.{IsWithin}
